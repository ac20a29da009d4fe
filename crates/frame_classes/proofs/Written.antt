-- A frame that is written by values has them.
use Rattle.std.proofs.Common.{◌≡◌, ℕ, zero, suc, ◌+◌, ◌-◌, ◌*◌, ◌/◌, ◌%◌, ◌^◌, ◌<◌, ◌≤◌, ◌==◌, Bool, true, false, List, [], ◌∷◌, ◌++◌, arith, refl, ap, sym, subst, length, length-append, length-take, if◌then◌else◌, max, min, nat_lt, get_or, take, ◌∙◌}
use Rattle.std.specs.Prelude.{All, replicate, slice_index}
use Rattle.std.specs.Int.{bytes_high_first, byte_at, to_be_bytes, w16, w64}
use Rattle.std.specs.List.{flat_map}
use Rattle.std.proofs.lemmas.Grind.{same_number_lists}
use Rattle.std.proofs.lemmas.Bool.{lt-ltb, ltb-false, ltb-true}
use Rattle.std.proofs.lemmas.List.{get_or-take, get_or_append_left, length-replicate}
use Rattle.std.proofs.lemmas.List.Elements.{All-append, All-cons, All-from_recursion, All-nil, All-replicate, All-take}
use Rattle.frame_rows.specs.declared.field.Field.TheVariants.{Length, FirstType, SecondType, ThirdType, FirstVid, SecondVid, ThirdVid, FirstPriority, SecondPriority, FirstEligible, SecondEligible}
use Rattle.frame_rows.specs.declared.field.Values.{Values}
use Rattle.frame_rows.specs.declared.source.Packet.{Packet}
use Rattle.frame_rows.specs.declared.source.Packet.TheVariants.{Ipv4, Ipv6, Other}
use Rattle.frame_rows.specs.Field.{fields, value_at, values_of, word_at}
use Rattle.frame_rows.specs.Words.{control_by, first_bits, packet_before, words_by}
use Rattle.frame_classes.specs.Frame.{frame_by, frame_length, head_by}
use Rattle.frame_classes.specs.Classes.{IsFrame}
use Rattle.frame_classes.specs.Splitting.{IsOf}
use Rattle.frame_rows.proofs.Words.{type_bytes, word_there}

-- ---- bytes

abbrev AreBytes : List ℕ → Type 0
AreBytes bytes = All (λ b. b < 2 ^ 8) bytes

byte_small : (k n : ℕ) → byte_at k n < 2 ^ 8
byte_small zero n = omega arith
byte_small (suc k) n = omega arith

number_bytes : (k n : ℕ) → AreBytes (bytes_high_first k n)
number_bytes zero n = All-nil (λ b. b < 2 ^ 8)
number_bytes (suc k) n = All-cons (λ b. b < 2 ^ 8) (byte_at k n) (bytes_high_first k n) (byte_small k n) (number_bytes k n)

words_bytes : (words : List ℕ) → AreBytes (flat_map (to_be_bytes w16) words)
words_bytes [] = All-nil (λ b. b < 2 ^ 8)
words_bytes (word ∷ rest) =
    All-append (λ b. b < 2 ^ 8) (to_be_bytes w16 word) (flat_map (to_be_bytes w16) rest) (number_bytes 2 word) (words_bytes rest)

address_bytes : AreBytes (2 ∷ 0 ∷ 0 ∷ 0 ∷ 0 ∷ 1 ∷ 2 ∷ 0 ∷ 0 ∷ 0 ∷ 0 ∷ 2 ∷ [])
address_bytes =
    All-from_recursion (λ b. b < 2 ^ 8) (2 ∷ 0 ∷ 0 ∷ 0 ∷ 0 ∷ 1 ∷ 2 ∷ 0 ∷ 0 ∷ 0 ∷ 0 ∷ 2 ∷ []) (
      omega arith,
      (
        omega arith,
        (
          omega arith,
          (
            omega arith,
            (
              omega arith,
              (
                omega arith,
                (
                  omega arith,
                  (
                    omega arith,
                    (
                      omega arith,
                      (
                        omega arith,
                        (
                          omega arith,
                          (omega arith, tt),
                        ),
                      ),
                    ),
                  ),
                ),
              ),
            ),
          ),
        ),
      ),
    )

head_bytes : (values : Values) (number : ℕ) → AreBytes (head_by values number)
head_bytes values number =
    All-append (λ b. b < 2 ^ 8) (2 ∷ 0 ∷ 0 ∷ 0 ∷ 0 ∷ 1 ∷ 2 ∷ 0 ∷ 0 ∷ 0 ∷ 0 ∷ 2 ∷ []) (flat_map (to_be_bytes w16) (words_by values) ++ to_be_bytes w64 number)
    address_bytes
    (All-append (λ b. b < 2 ^ 8) (flat_map (to_be_bytes w16) (words_by values)) (to_be_bytes w64 number) (words_bytes (words_by values)) (number_bytes 8 number))

head_length : (values : Values) (number : ℕ) → length (head_by values number) ≡ 32
head_length values number = refl

-- ---- the frame

frame_bytes : (values : Values) (least number : ℕ) → AreBytes (frame_by values least number)
frame_bytes values least number =
    let count = frame_length values least in
    All-append (λ b. b < 2 ^ 8) (take (min count 32) (head_by values number)) (replicate (count - 32) 0)
    (All-take (λ b. b < 2 ^ 8) (min count 32) (head_by values number) (head_bytes values number))
    (All-replicate (λ b. b < 2 ^ 8) (count - 32) 0 (omega arith))

-- by what code makes of it
pub written_by : (values : Values) (least number count size more : ℕ) (head start now : List ℕ) → head ≡ head_by values number
    → count ≡ frame_length values least → size ≡ min count 32 → more ≡ count - 32 → start ≡ take size head → now ≡ start ++ replicate more 0
    → now ≡ frame_by values least number
written_by values least number count size more head start now p q r s t u = rw (u, t, s, r, q, p) refl

-- it is as long as it is to be
written_length : (values : Values) (least number : ℕ) → length (frame_by values least number) ≡ frame_length values least
written_length values least number =
    let count = frame_length values least in
    let all = length-append (take (min count 32) (head_by values number)) (replicate (count - 32) 0) in
    let head = length-take (min count 32) (head_by values number) in
    let long = head_length values number in
    let rest = length-replicate {A = ℕ} (count - 32) 0 in
    omega (arith, all, head, long, rest)

-- and begins with its head
written_byte : (values : Values) (least number k : ℕ) → k < 32 → k < frame_length values least
    → slice_index (frame_by values least number) k ≡ slice_index (head_by values number) k
written_byte values least number k short within =
    let count = frame_length values least in
    let head = length-take (min count 32) (head_by values number) in
    let long = head_length values number in
    get_or_append_left (take (min count 32) (head_by values number)) (replicate (count - 32) 0) 0 k (omega (arith, head, long))
    ∙ get_or-take (min count 32) (head_by values number) k 0 (omega arith)

-- the length of a frame that it can have
counted_by : (values : Values) (least : ℕ) → value_at Length values < 25 → min 24 (frame_length values least) ≡ value_at Length values
counted_by values least below = by_case (nat_lt (value_at Length values) 24) refl
  where
    by_case : (b : Bool) → nat_lt (value_at Length values) 24 ≡ b → min 24 (frame_length values least) ≡ value_at Length values
    by_case true is = rw is (short (ltb-true (value_at Length values) 24 is))
      where
        short : value_at Length values < 24 → min 24 (value_at Length values) ≡ value_at Length values
        short h = omega arith
    by_case false is = rw is (long (ltb-false (value_at Length values) 24 is))
      where
        long : 24 ≤ value_at Length values → min 24 (max 60 least) ≡ value_at Length values
        long h = omega arith

long_by : (values : Values) (least : ℕ) → min 24 least ≤ value_at Length values → least ≤ frame_length values least
long_by values least long = by_case (nat_lt (value_at Length values) 24) refl
  where
    by_case : (b : Bool) → nat_lt (value_at Length values) 24 ≡ b → least ≤ frame_length values least
    by_case true is = rw is (short (ltb-true (value_at Length values) 24 is))
      where
        short : value_at Length values < 24 → least ≤ value_at Length values
        short h = omega arith
    by_case false is = rw is (omega arith)

-- a word of it, where it is that long
written_word : (values : Values) (least number place word : ℕ) → place + 2 ≤ 24 → value_at Length values < 25
    → slice_index (head_by values number) place * 256 + slice_index (head_by values number) (place + 1) ≡ word
    → word_at place (frame_by values least number) ≡ (if nat_lt (value_at Length values) (place + 2) then 0 else word)
written_word values least number place word within below is = by_case (nat_lt (value_at Length values) (place + 2)) refl
  where
    by_case : (b : Bool) → nat_lt (value_at Length values) (place + 2) ≡ b
        → word_at place (frame_by values least number) ≡ (if nat_lt (value_at Length values) (place + 2) then 0 else word)
    by_case true short =
        let few : value_at Length values < place + 2 = ltb-true (value_at Length values) (place + 2) short in
        let same = written_length values least number in
        let counted = counted_by values least below in
        let cut : nat_lt (length (frame_by values least number)) (place + 2) ≡ true =
        lt-ltb (length (frame_by values least number)) (place + 2) (omega (arith, same, counted)) in
        rw (short, cut) refl
    by_case false long =
        let many : place + 2 ≤ value_at Length values = ltb-false (value_at Length values) (place + 2) long in
        let same = written_length values least number in
        let counted = counted_by values least below in
        let there : place + 2 ≤ length (frame_by values least number) = omega (arith, same, counted) in
        let high = written_byte values least number place (omega arith) (omega (arith, same)) in
        let low = written_byte values least number (place + 1) (omega arith) (omega (arith, same)) in
        let both : word_at place (frame_by values least number) ≡ word =
        word_there place (frame_by values least number) there ∙ type_bytes place (frame_by values least number) ∙ rw (high, low) is in
        rw long both

-- ---- what the words hold

two_bytes : (n : ℕ) → n < 2 ^ 16 → byte_at 1 n * 256 + byte_at 0 n ≡ n
two_bytes n fits = omega arith

-- a part of a word, that is 0 where the frame is too short
part : (f : ℕ → ℕ) (count end word value : ℕ) → f 0 ≡ 0 → (count < end → value ≡ 0) → f word ≡ value
    → f (if nat_lt count end then 0 else word) ≡ value
part f count end word value none absent is = by_case (nat_lt count end) refl
  where
    by_case : (b : Bool) → nat_lt count end ≡ b → f (if nat_lt count end then 0 else word) ≡ value
    by_case true short = rw short (none ∙ sym (absent (ltb-true count end short)))
    by_case false long = rw long is

bit_same : (bit : ℕ) → bit < 2 → (if bit == 1 then 1 else 0) ≡ bit
bit_same zero h = refl
bit_same (suc zero) h = refl
bit_same (suc (suc more)) h = absurd (omega arith)

-- of a priority, a drop eligible indicator and a VID
pub record HoldsTag (word priority eligible vid : ℕ) : Type 0 where
  pub fits : word < 2 ^ 16
  pub vid_is : word % 2 ^ 12 ≡ vid
  pub priority_is : word / 2 ^ 13 ≡ priority
  pub eligible_is : word / 2 ^ 12 % 2 ≡ eligible

holds_tag : (priority eligible vid : ℕ) → priority < 8 → eligible < 2 → vid < 2 ^ 12
    → HoldsTag (priority % 2 ^ 3 * 2 ^ 13 + (if eligible == 1 then 1 else 0) * 2 ^ 12 + vid % 2 ^ 12) priority eligible vid
holds_tag priority eligible vid p e v =
    rw (bit_same eligible e) (record { fits = omega arith; vid_is = omega arith; priority_is = omega arith; eligible_is = omega arith })

packet_fits : (packet : Packet) (bits : ℕ) → bits < 2 ^ 12 → first_bits packet + bits % 2 ^ 12 < 2 ^ 16
packet_fits Ipv4 bits h = omega arith
packet_fits Ipv6 bits h = omega arith
packet_fits Other bits h = omega arith

packet_bits : (packet : Packet) (bits : ℕ) → bits < 2 ^ 12 → (first_bits packet + bits % 2 ^ 12) % 2 ^ 12 ≡ bits
packet_bits Ipv4 bits h = omega arith
packet_bits Ipv6 bits h = omega arith
packet_bits Other bits h = omega arith

-- ---- all values

values_same : (values : Values) (list : List ℕ) → list ≡ values.values → record { values = list } ≡ values
values_same values list is = ap (λ (xs : List ℕ). record { values = xs }) is

written_values : (values : Values) (least number : ℕ) → length values.values ≡ 11 → IsOf least fields values
    → values_of (frame_by values least number) ≡ values
unfolding values_of
written_values values least number eleven of =
    values_same values list (same_number_lists list values.values (sym eleven) each)
  where
    count : ℕ
    count = value_at Length values

    below : count < 25
    below = (of 0 Length (omega arith)).below

    frame : List ℕ
    frame = frame_by values least number

    packet : Packet
    packet = packet_before ThirdVid values

    first : HoldsTag (control_by FirstPriority FirstEligible FirstVid values) (value_at FirstPriority values) (value_at FirstEligible values) (value_at FirstVid values)
    first = holds_tag _ _ _ (of 7 Length (omega arith)).below (of 9 Length (omega arith)).below (of 4 Length (omega arith)).below

    second : HoldsTag (control_by SecondPriority SecondEligible SecondVid values) (value_at SecondPriority values) (value_at SecondEligible values) (value_at SecondVid values)
    second = holds_tag _ _ _ (of 8 Length (omega arith)).below (of 10 Length (omega arith)).below (of 5 Length (omega arith)).below

    first_type : word_at 12 (frame_by values least number) ≡ (if nat_lt (value_at Length values) 14 then 0 else value_at FirstType values)
    first_type = written_word values least number 12 (value_at FirstType values) (omega arith) below (two_bytes (value_at FirstType values) (of 1 Length (omega arith)).below)

    second_type : word_at 16 (frame_by values least number) ≡ (if nat_lt (value_at Length values) 18 then 0 else value_at SecondType values)
    second_type = written_word values least number 16 (value_at SecondType values) (omega arith) below (two_bytes (value_at SecondType values) (of 2 Length (omega arith)).below)

    third_type : word_at 20 (frame_by values least number) ≡ (if nat_lt (value_at Length values) 22 then 0 else value_at ThirdType values)
    third_type = written_word values least number 20 (value_at ThirdType values) (omega arith) below (two_bytes (value_at ThirdType values) (of 3 Length (omega arith)).below)

    first_control : word_at 14 (frame_by values least number) ≡ (if nat_lt (value_at Length values) 16 then 0 else control_by FirstPriority FirstEligible FirstVid values)
    first_control = written_word values least number 14 (control_by FirstPriority FirstEligible FirstVid values) (omega arith) below (two_bytes _ first.fits)

    second_control : word_at 18 (frame_by values least number) ≡ (if nat_lt (value_at Length values) 20 then 0 else control_by SecondPriority SecondEligible SecondVid values)
    second_control = written_word values least number 18 (control_by SecondPriority SecondEligible SecondVid values) (omega arith) below (two_bytes _ second.fits)

    third_bits : word_at 22 (frame_by values least number) ≡ (if nat_lt (value_at Length values) 24 then 0 else first_bits packet + value_at ThirdVid values % 2 ^ 12)
    third_bits =
        written_word values least number 22 (first_bits packet + value_at ThirdVid values % 2 ^ 12) (omega arith) below
        (two_bytes _ (packet_fits packet (value_at ThirdVid values) (of 6 Length (omega arith)).below))

    list : List ℕ
    list =
        min 24 (length frame) ∷ word_at 12 frame ∷ word_at 16 frame ∷ word_at 20 frame
        ∷ word_at 14 frame % 2 ^ 12 ∷ word_at 18 frame % 2 ^ 12 ∷ word_at 22 frame % 2 ^ 12
        ∷ word_at 14 frame / 2 ^ 13 ∷ word_at 18 frame / 2 ^ 13
        ∷ word_at 14 frame / 2 ^ 12 % 2 ∷ word_at 18 frame / 2 ^ 12 % 2 ∷ []

    each : (k : ℕ) → k < 11 → get_or list k 0 ≡ get_or values.values k 0
    each zero h = ap (min 24) (written_length values least number) ∙ counted_by values least below
    each (suc zero) h = first_type ∙ part (λ n. n) count 14 (value_at FirstType values) (value_at FirstType values) refl (of 1 Length (omega arith)).absent refl
    each (suc (suc zero)) h = second_type ∙ part (λ n. n) count 18 (value_at SecondType values) (value_at SecondType values) refl (of 2 Length (omega arith)).absent refl
    each (suc (suc (suc zero))) h = third_type ∙ part (λ n. n) count 22 (value_at ThirdType values) (value_at ThirdType values) refl (of 3 Length (omega arith)).absent refl
    each (suc (suc (suc (suc zero)))) h =
        ap (λ (n : ℕ). n % 2 ^ 12) first_control
        ∙ part (λ n. n % 2 ^ 12) count 16 (control_by FirstPriority FirstEligible FirstVid values) (value_at FirstVid values) refl (of 4 Length (omega arith)).absent first.vid_is
    each (suc (suc (suc (suc (suc zero))))) h =
        ap (λ (n : ℕ). n % 2 ^ 12) second_control
        ∙ part (λ n. n % 2 ^ 12) count 20 (control_by SecondPriority SecondEligible SecondVid values) (value_at SecondVid values) refl (of 5 Length (omega arith)).absent second.vid_is
    each (suc (suc (suc (suc (suc (suc zero)))))) h =
        ap (λ (n : ℕ). n % 2 ^ 12) third_bits
        ∙ part (λ n. n % 2 ^ 12) count 24 (first_bits packet + value_at ThirdVid values % 2 ^ 12) (value_at ThirdVid values) refl (of 6 Length (omega arith)).absent
        (packet_bits packet (value_at ThirdVid values) (of 6 Length (omega arith)).below)
    each (suc (suc (suc (suc (suc (suc (suc zero))))))) h =
        ap (λ (n : ℕ). n / 2 ^ 13) first_control
        ∙ part (λ n. n / 2 ^ 13) count 16 (control_by FirstPriority FirstEligible FirstVid values) (value_at FirstPriority values) refl (of 7 Length (omega arith)).absent first.priority_is
    each (suc (suc (suc (suc (suc (suc (suc (suc zero)))))))) h =
        ap (λ (n : ℕ). n / 2 ^ 13) second_control
        ∙ part (λ n. n / 2 ^ 13) count 20 (control_by SecondPriority SecondEligible SecondVid values) (value_at SecondPriority values) refl (of 8 Length (omega arith)).absent second.priority_is
    each (suc (suc (suc (suc (suc (suc (suc (suc (suc zero))))))))) h =
        ap (λ (n : ℕ). n / 2 ^ 12 % 2) first_control
        ∙ part (λ n. n / 2 ^ 12 % 2) count 16 (control_by FirstPriority FirstEligible FirstVid values) (value_at FirstEligible values) refl (of 9 Length (omega arith)).absent first.eligible_is
    each (suc (suc (suc (suc (suc (suc (suc (suc (suc (suc zero)))))))))) h =
        ap (λ (n : ℕ). n / 2 ^ 12 % 2) second_control
        ∙ part (λ n. n / 2 ^ 12 % 2) count 20 (control_by SecondPriority SecondEligible SecondVid values) (value_at SecondEligible values) refl (of 10 Length (omega arith)).absent second.eligible_is
    each (suc (suc (suc (suc (suc (suc (suc (suc (suc (suc (suc more))))))))))) h = absurd (omega arith)

-- it is a frame
written_frame : (values : Values) (least number : ℕ) → IsOf least fields values → IsFrame least (frame_by values least number)
written_frame values least number of =
    let same = written_length values least number in
    let long = long_by values least ((of 0 Length (omega arith)).long refl) in
    record { bytes_fit = frame_bytes values least number; long = omega (arith, same, long) }

-- by what code makes of it
pub values_along : (values : Values) (least number : ℕ) (bytes : List ℕ) → length values.values ≡ 11 → bytes ≡ frame_by values least number
    → IsOf least fields values → values_of bytes ≡ values
values_along values least number bytes eleven is of = ap values_of is ∙ written_values values least number eleven of

pub frame_along : (values : Values) (least number : ℕ) (bytes : List ℕ) → bytes ≡ frame_by values least number
    → IsOf least fields values → IsFrame least bytes
frame_along values least number bytes is of = subst (IsFrame least) (sym is) (written_frame values least number of)
