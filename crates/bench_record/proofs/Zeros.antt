-- Bytes without the zeros that end them.
use Rattle.std.proofs.Common.{◌≡◌, ◌≤◌, ◌-◌, ℕ, zero, suc, ◌&&◌, Bool, true, false, List, [], ◌∷◌, length, take, get_or, refl, ap, sym, ◌∙◌, arith}
use Rattle.std.specs.Prelude.{◌==◌, if◌then◌else◌}
use Rattle.std.proofs.lemmas.Bool.{ne_eqb}
use Rattle.bench_record.specs.Cores.{without_zeros}
use Rattle.bench_record.specs.Index.{key_rest}

-- a byte in front of what is left of those behind it
abbrev front_of : ℕ → List ℕ → List ℕ
front_of b rest = if b == 0 && length rest == 0 then [] else b ∷ rest

last_zero : (b : ℕ) (xs : List ℕ) (d : ℕ) → get_or (b ∷ xs) (length xs) d ≡ 0 → without_zeros (take (length xs) (b ∷ xs)) ≡ without_zeros (b ∷ xs)
last_zero b [] d is = sym (ap (λ n. without_zeros (n ∷ [])) is)
last_zero b (x ∷ xs) d is = ap (front_of b) (last_zero x xs d is)

-- a zero that ends them can go
pub zero_dropped : (xs : List ℕ) → 1 ≤ length xs → get_or xs (length xs - 1) 0 ≡ 0 → without_zeros (take (length xs - 1) xs) ≡ without_zeros xs
zero_dropped [] some is = absurd (omega (arith, some))
zero_dropped (b ∷ xs) some is =
    let n : length (b ∷ xs) - 1 ≡ length xs = omega arith in
    ap (λ k. without_zeros (take k (b ∷ xs))) n ∙ last_zero b xs 0 (ap (λ k. get_or (b ∷ xs) k 0) (sym n) ∙ is)

stays_in_front : (b : ℕ) (rest : List ℕ) → (length rest == 0) ≡ false → front_of b rest ≡ b ∷ rest
stays_in_front b rest some = here (b == 0)
  where
    here : (c : Bool) → (if c && length rest == 0 then [] else b ∷ rest) ≡ b ∷ rest
    here true = ap (λ (e : Bool). if e then [] else b ∷ rest) some
    here false = refl

some_left : (n : ℕ) → (suc n == 0) ≡ false
some_left n = grind arith

last_stays : (b : ℕ) (xs : List ℕ) (d : ℕ) → (get_or (b ∷ xs) (length xs) d == 0) ≡ false → without_zeros (b ∷ xs) ≡ b ∷ xs
last_stays b [] d is = ap (λ (c : Bool). if c && true then [] else b ∷ []) is
last_stays b (x ∷ xs) d is = ap (front_of b) (last_stays x xs d is) ∙ stays_in_front b (x ∷ xs) (some_left (length xs))

-- bytes that another ends stay
pub others_stay : (xs : List ℕ) → 1 ≤ length xs → (get_or xs (length xs - 1) 0 ≡ 0 → ⊥) → without_zeros xs ≡ xs
others_stay [] some apart = absurd (omega (arith, some))
others_stay (b ∷ xs) some apart =
    let n : length (b ∷ xs) - 1 ≡ length xs = omega arith in
    last_stays b xs 0 (ne_eqb (get_or (b ∷ xs) (length xs) 0) 0 (λ is. apart (ap (λ k. get_or (b ∷ xs) k 0) n ∙ is)))

-- ---- the zeros that end the first bytes

abbrev front_by : Bool → ℕ → List ℕ → List ℕ
front_by c b rest = if c && length rest == 0 then [] else b ∷ rest

nothing_taken : (n : ℕ) → without_zeros (take n []) ≡ []
nothing_taken zero = refl
nothing_taken (suc n) = refl

stays_by : (c : Bool) (b : ℕ) (rest : List ℕ) → (length rest == 0) ≡ false → front_by c b rest ≡ b ∷ rest
stays_by true b rest some = ap (λ (e : Bool). if e then [] else b ∷ rest) some
stays_by false b rest some = refl

alone : (n b : ℕ) (c : Bool) → (b == 0) ≡ c → front_by c b [] ≡ without_zeros (take (suc n) (front_by c b []))
alone n b true is = refl
alone n b false is = sym (ap (λ (ys : List ℕ). front_by (b == 0) b ys) (nothing_taken n) ∙ ap (λ (e : Bool). front_by e b []) is)

-- zeros that end bytes can go before the first are taken
zeros_first : (n : ℕ) (xs : List ℕ) → key_rest n xs ≡ key_rest n (without_zeros xs)
zeros_first zero xs = refl
zeros_first (suc n) [] = refl
zeros_first (suc n) (b ∷ xs) = here (b == 0) refl (without_zeros xs) (zeros_first n xs)
  where
    here : (c : Bool) → (b == 0) ≡ c → (rest : List ℕ) → without_zeros (take n xs) ≡ without_zeros (take n rest)
        → front_by (b == 0) b (without_zeros (take n xs)) ≡ without_zeros (take (suc n) (front_by c b rest))
    here c is [] same =
        ap (λ (e : Bool). front_by e b (without_zeros (take n xs))) is
        ∙ ap (λ (ys : List ℕ). front_by c b ys) (same ∙ nothing_taken n) ∙ alone n b c is
    here c is (r ∷ rest) same =
        ap (λ (ys : List ℕ). front_by (b == 0) b ys) same
        ∙ sym (ap (λ (ys : List ℕ). without_zeros (take (suc n) ys)) (stays_by c b (r ∷ rest) (some_left (length rest))))

-- the same but for zeros: the first bytes are so too
pub same_first : (n : ℕ) (xs ys : List ℕ) → without_zeros xs ≡ without_zeros ys → key_rest n xs ≡ key_rest n ys
same_first n xs ys same = zeros_first n xs ∙ ap (λ (zs : List ℕ). key_rest n zs) same ∙ sym (zeros_first n ys)
