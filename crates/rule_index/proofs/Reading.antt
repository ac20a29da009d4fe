-- What the readers of an index say.
use Rattle.std.proofs.Common.{◌≡◌, ◌==◌, ℕ, zero, suc, ◌+◌, ◌*◌, ◌<◌, ◌≤◌, Bool, true, false, not, ◌||◌, cond, List, [], ◌∷◌, ◌++◌, length, refl, ap, sym, ◌∙◌, arith, subst, append_assoc, length-append}
use Rattle.std.specs.Int.{bit_at}
use Rattle.std.proofs.lemmas.Bool.{ne_eqb}
use Rattle.std.proofs.Math.Seq.{get_or-append_seam}
use Rattle.std.proofs.lemmas.Nat.Bits.{bit_at_lowest, bit_at-suc, bit_at-zero}
use Rattle.vlan_rule.specs.declared.kind.Kind.{Kind}
use Rattle.vlan_rule.specs.declared.kind.Kind.TheVariants.{NoTag, OneTagDefault, OneTag, TwoTagDefault, TwoTag}
use Rattle.vlan_rule.specs.Entry.{codes_of, filter_inner, filter_outer, inner_counts, kind_of}
use Rattle.vlan_rule.specs.Choice.{entry_at}
use Rattle.vlan_rule.specs.Meaning.{filter_by, filter_of, rank_number, rank_of, vid_filter}
use Rattle.vlan_rule.specs.declared.layout.TagCodes.{TagCodes}
use Rattle.rule_index.specs.declared.row.Row.{Row}
use Rattle.rule_index.specs.Masks.{bit_of, mask_of}
use Rattle.rule_index.specs.Filters.{admits_vid, inner_in, tags_in}
use Rattle.rule_index.specs.Order.{order_of, row_of, rows_from, rows_of}
use Rattle.rule_index.specs.Readers.{has_inner_vid, has_tags, is_at, kind_tags, mask_in_order, IsMaskInOrder}
use Rattle.rule_index.proofs.MaskLaws.{high, low, mask-map, mask-none, mask-same}

-- ---- the bits of a mask

pub mask-bit : {A : Type 0} (p : A → Bool) (xs : List A) (j : ℕ) → bit_at (mask_of p xs) j ≡ bit_of (is_at p xs j)
unfolding mask_of
mask-bit p [] j = bit_at-zero j
mask-bit p (x ∷ xs) zero = bit_at_lowest (mask_of p xs * 2 + bit_of (p x)) ∙ low (mask_of p xs) (p x)
mask-bit p (x ∷ xs) (suc j) =
    bit_at-suc (mask_of p xs * 2 + bit_of (p x)) j ∙ ap (λ m. bit_at m j) (high (mask_of p xs) (p x)) ∙ mask-bit p xs j

-- ---- each row is that of its entry

unfoldable pub Each : {A : Type 0} → (A → Type 0) → List A → Type 0
Each P [] = Unit {0}
Each P (x ∷ xs) = P x × Each P xs

pub each-append : {A : Type 0} (P : A → Type 0) (xs ys : List A) → Each P xs → Each P ys → Each P (xs ++ ys)
unfolding Each
each-append P [] ys a b = b
each-append P (x ∷ xs) ys a b = (a.0, each-append P xs ys a.1 b)

IsRowIn : List (List ℕ) → Row → Type 0
IsRowIn entries row = row ≡ row_of row.place (entry_at entries row.place)

each-from : (rank : ℕ) (before after : List (List ℕ)) → Each (IsRowIn (before ++ after)) (rows_from rank (length before) after)
unfolding rows_from Each IsRowIn
each-from rank before [] = tt
each-from rank before (e ∷ after) =
    let P : List (List ℕ) → Type 0 = λ all. Each (IsRowIn all) (rows_from rank (length (before ++ e ∷ [])) after) in
    let Q : ℕ → Type 0 = λ n. Each (IsRowIn (before ++ e ∷ after)) (rows_from rank n after) in
    let rest = subst Q (length-append before (e ∷ [])) (subst P (append_assoc before (e ∷ []) after) (each-from rank (before ++ e ∷ []) after)) in
    by_case rest (rank_number (rank_of e) == rank)
  where
    here : entry_at (before ++ e ∷ after) (length before) ≡ e
    here = get_or-append_seam before e after []

    by_case : Each (IsRowIn (before ++ e ∷ after)) (rows_from rank (length before + 1) after) → (b : Bool)
        → Each (IsRowIn (before ++ e ∷ after)) (cond b (row_of (length before) e ∷ rows_from rank (length before + 1) after) (rows_from rank (length before + 1) after))
    by_case rest true = (ap (row_of (length before)) (sym here), rest)
    by_case rest false = rest

each-row : (entries : List (List ℕ)) → Each (IsRowIn entries) (rows_of entries)
unfolding rows_of
each-row entries =
    each-append (IsRowIn entries) (rows_from 0 0 entries) (rows_from 1 0 entries ++ rows_from 2 0 entries) (each-from 0 [] entries)
    (each-append (IsRowIn entries) (rows_from 1 0 entries) (rows_from 2 0 entries) (each-from 1 [] entries) (each-from 2 [] entries))

-- ---- a mask of rows as one of entries

mask-each : {A : Type 0} (p q : A → Bool) (xs : List A) → Each (λ x. p x ≡ q x) xs → mask_of p xs ≡ mask_of q xs
unfolding mask_of Each
mask-each p q [] same = refl
mask-each p q (x ∷ xs) same = rw (mask-each p q xs same.1, same.0) refl

pub each-implies : {A : Type 0} (P Q : A → Type 0) (xs : List A) → ((x : A) → P x → Q x) → Each P xs → Each Q xs
unfolding Each
each-implies P Q [] f each = tt
each-implies P Q (x ∷ xs) f each = (f x each.0, each-implies P Q xs f each.1)

-- a mask of the rows is one of the entries in their order
pub in-order : (p : Row → Bool) (test : List ℕ → Bool) → ((n : ℕ) (e : List ℕ) → p (row_of n e) ≡ test e)
    → (entries : List (List ℕ)) (rows : List Row) (mask : ℕ) → rows ≡ rows_of entries → mask ≡ mask_of p rows → mask ≡ mask_in_order test entries
unfolding IsRowIn
in-order p test same entries rows mask of_entries is =
    let q : Row → Bool = λ row. test (entry_at entries row.place) in
    let agrees : Each (λ row. p row ≡ q row) (rows_of entries) =
    each-implies (IsRowIn entries) (λ row. p row ≡ q row) (rows_of entries) (λ row h. ap p h ∙ same row.place (entry_at entries row.place)) (each-row entries) in
    is ∙ ap (λ (rows : List Row). mask_of p rows) of_entries ∙ mask-each p q (rows_of entries) agrees
    ∙ sym (mask-map (λ place. test (entry_at entries place)) (λ (row : Row). row.place) (rows_of entries))

-- whose bits are as they are to be
pub bits : (test : List ℕ → Bool) (entries : List (List ℕ)) (mask : ℕ) → mask ≡ mask_in_order test entries → IsMaskInOrder test entries mask
bits test entries mask is = λ j. ap (λ m. bit_at m j) is ∙ mask-bit (λ place. test (entry_at entries place)) (order_of entries) j

-- ---- what the tests are

kind-tags : (kind : Kind) (outer inner : TagCodes) → tags_in (filter_by kind outer inner) ≡ kind_tags kind
kind-tags NoTag outer inner = refl
kind-tags OneTagDefault outer inner = refl
kind-tags OneTag outer inner = refl
kind-tags TwoTagDefault outer inner = refl
kind-tags TwoTag outer inner = refl

pub row-tags : (tags n : ℕ) (e : List ℕ) → (tags_in (row_of n e).filter == tags) ≡ has_tags tags e
unfolding filter_of
row-tags tags n e = ap (λ k. k == tags) (kind-tags (kind_of e) (codes_of filter_outer e) (codes_of filter_inner e))

kind-vid : (v : ℕ) (kind : Kind) (outer inner : TagCodes)
    → admits_vid v (inner_in (filter_by kind outer inner)).vid ≡ (not (inner_counts kind) || admits_vid v (vid_filter inner.vid))
kind-vid v NoTag outer inner = refl
kind-vid v OneTagDefault outer inner = refl
kind-vid v OneTag outer inner = refl
kind-vid v TwoTagDefault outer inner = refl
kind-vid v TwoTag outer inner = refl

pub row-vid : (v n : ℕ) (e : List ℕ) → admits_vid v (inner_in (row_of n e).filter).vid ≡ has_inner_vid v e
unfolding filter_of
row-vid v n e = kind-vid v (kind_of e) (codes_of filter_outer e) (codes_of filter_inner e)

-- ---- more tags than there are

pub no-mask : (test : List ℕ → Bool) (entries : List (List ℕ)) → ((e : List ℕ) → test e ≡ false) → 0 ≡ mask_in_order test entries
no-mask test entries none =
    sym (mask-same (λ place. test (entry_at entries place)) (λ place. false) (order_of entries) (λ place. none (entry_at entries place)) ∙ mask-none (order_of entries))

pub too-many : (tags : ℕ) (e : List ℕ) → 2 < tags → has_tags tags e ≡ false
too-many tags e many = ne_eqb (kind_tags (kind_of e)) tags (λ h. omega (arith, h, at_most (kind_of e)))
  where
    at_most : (kind : Kind) → kind_tags kind ≤ 2
    at_most NoTag = omega arith
    at_most OneTagDefault = omega arith
    at_most OneTag = omega arith
    at_most TwoTagDefault = omega arith
    at_most TwoTag = omega arith
