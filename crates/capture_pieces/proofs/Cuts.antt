-- Cut frames, one record after the other.
use mir.Val.{bool_byte}
use Rattle.std.proofs.Common.{◌≡◌, ◌<◌, ◌≤◌, ◌∙◌, ◌^◌, min, ℕ, zero, suc, ◌+◌, ◌-◌, Bool, true, false, List, [], ◌∷◌, ◌++◌, Some, None, Result, Err, drop, length, length-drop, refl, sym, ap, arith}
use Rattle.std.specs.Prelude.{if◌then◌else◌}
use Rattle.capture.proofs.Captures.{number_behind, whole_sizes}
use Rattle.capture.specs.declared.fault.CaptureFault.{CaptureFault}
use Rattle.capture.specs.declared.order.Order.{Order}
use Rattle.capture.specs.declared.record.RecordFault.{RecordFault}
use Rattle.capture.specs.declared.record.RecordFault.TheVariants as records
use Rattle.capture.specs.Records.{behind_first, record_fault, stored_length}
use Rattle.capture_pieces.specs.declared.piece.Piece.{Piece}
use Rattle.capture_pieces.specs.CutFrames.{all_cut_in, counted, cut_behind, cut_in, is_cut, original_length}
use Rattle.capture_pieces.specs.Joined.{file_of, longest}
use Rattle.capture_pieces.specs.Left.{BeginInFirst, left_of}
use Rattle.capture_pieces.proofs.Held.{fault_held, stored_held}
use Rattle.capture_pieces.proofs.Places.{reaches}

-- ---- a count

-- 1 for a record that is cut
abbrev pub one_if : Bool → ℕ
one_if cut = if cut then 1 else 0

-- as a number it is that
pub byte_is : (cut : Bool) → bool_byte cut ≡ one_if cut
byte_is true = refl
byte_is false = refl

none_from : (most : ℕ) (order : Order) (bytes : List ℕ) (fault : RecordFault) → record_fault order bytes ≡ Some fault → cut_in most order bytes ≡ 0
none_from zero order bytes fault is = refl
none_from (suc most) order bytes fault is = rw is refl

one_more : (most : ℕ) (order : Order) (bytes : List ℕ) → record_fault order bytes ≡ None
    → cut_in (suc most) order bytes ≡ one_if (is_cut order bytes) + cut_in most order (behind_first order bytes)
one_more most order bytes whole = rw whole refl

-- behind a whole record are fewer bytes
shorter : (order : Order) (bytes : List ℕ) → record_fault order bytes ≡ None → length (behind_first order bytes) < length bytes
shorter order bytes whole = let sizes = whole_sizes order bytes whole in simp length-drop (omega (arith, sizes.long))

-- no bytes begin with a whole record
empty : (order : Order) (bytes : List ℕ) → length bytes ≤ 0 → record_fault order bytes ≡ Some records.Torn
empty order [] none = refl
empty order (b ∷ bytes) none = absurd (omega (arith, none))

-- as many records as bytes are looked for, or more
enough : (m n : ℕ) (order : Order) (bytes : List ℕ) → length bytes ≤ m → length bytes ≤ n → cut_in m order bytes ≡ cut_in n order bytes
enough zero n order bytes few many = sym (none_from n order bytes records.Torn (empty order bytes few))
enough (suc m) zero order bytes few many = none_from (suc m) order bytes records.Torn (empty order bytes many)
enough (suc m) (suc n) order bytes few many =
    elim (record_fault order bytes) as (λ t. record_fault order bytes ≡ t → cut_in (suc m) order bytes ≡ cut_in (suc n) order bytes) [
      | Some fault ↦ λ is. none_from (suc m) order bytes fault is ∙ sym (none_from (suc n) order bytes fault is)
      | None ↦ λ whole.
          let less = shorter order bytes whole in
          let same = enough m n order (behind_first order bytes) (omega (arith, less, few)) (omega (arith, less, many)) in
          one_more m order bytes whole ∙ ap (λ k. one_if (is_cut order bytes) + k) same ∙ sym (one_more n order bytes whole)
    ] refl

-- a whole record stands in front
pub cut_more : (order : Order) (bytes behind : List ℕ) → record_fault order bytes ≡ None → behind ≡ behind_first order bytes
    → all_cut_in order bytes ≡ one_if (is_cut order bytes) + all_cut_in order behind
unfolding all_cut_in
cut_more order bytes behind whole is =
    let less = shorter order bytes whole in
    enough (length bytes) (suc (length bytes)) order bytes (omega arith) (omega arith)
    ∙ one_more (length bytes) order bytes whole
    ∙ ap (λ k. one_if (is_cut order bytes) + k) (enough (length bytes) (length (behind_first order bytes)) order (behind_first order bytes) (omega (arith, less)) (omega arith))
    ∙ ap (λ (l : List ℕ). one_if (is_cut order bytes) + cut_in (length l) order l) (sym is)

-- none does
pub cut_none : (order : Order) (bytes : List ℕ) (fault : RecordFault) → record_fault order bytes ≡ Some fault → all_cut_in order bytes ≡ 0
unfolding all_cut_in
cut_none order bytes fault is = none_from (length bytes) order bytes fault is

pub cut_empty : (order : Order) (bytes : List ℕ) → length bytes ≡ 0 → all_cut_in order bytes ≡ 0
cut_empty order bytes none = cut_none order bytes records.Torn (empty order bytes (omega (arith, none)))

-- what is counted and what is left, behind one record more
pub counted_more : (cut one next : ℕ) (seen : Bool) (all : ℕ) (order : Order) (bytes behind : List ℕ) → record_fault order bytes ≡ None
    → behind ≡ behind_first order bytes → seen ≡ is_cut order bytes → one ≡ one_if seen → next ≡ min (cut + one) (2 ^ 64 - 1)
    → counted (cut + all_cut_in order bytes) ≡ all → counted (next + all_cut_in order behind) ≡ all
unfolding counted
counted_more cut one next seen all order bytes behind whole is same byte sum so_far =
    let more = cut_more order bytes behind whole is in
    let one_is = byte ∙ ap one_if same in
    let rest : ℕ = all_cut_in order behind in
    let here : ℕ = one_if (is_cut order bytes) in
    let now : next ≡ min (cut + here) (2 ^ 64 - 1) = sum ∙ ap (λ k. min (cut + k) (2 ^ 64 - 1)) one_is in
    let kept : min (cut + (here + rest)) (2 ^ 64 - 1) ≡ all = ap (λ k. min (cut + k) (2 ^ 64 - 1)) (sym more) ∙ so_far in
    omega (arith, now, kept)

-- behind a header with a fault no frame is cut
pub counted_none : (header : Result Order CaptureFault) (fault : CaptureFault) (bytes : List ℕ) → header ≡ Err fault → 0 ≡ counted (cut_behind header bytes)
unfolding counted
counted_none header fault bytes is = rw is refl

-- nothing is left
pub counted_all : (cut left all : ℕ) → left ≡ 0 → cut < 2 ^ 64 → counted (cut + left) ≡ all → cut ≡ all
unfolding counted
counted_all cut left all none few so_far = omega (arith, none, few, so_far)

-- ---- records in pieces

-- a whole record is cut where what its piece holds says so
pub cut_there : (order : Order) (pieces : List Piece) (rest : List ℕ) → BeginInFirst pieces rest → record_fault order (left_of pieces rest) ≡ None
    → (record_fault order rest ≡ None) × (is_cut order (left_of pieces rest) ≡ is_cut order rest)
cut_there order [] rest begin whole = absurd (cc)
cut_there order (p ∷ behind) rest begin whole =
    let others : List ℕ = drop longest (file_of behind) in
    let held : record_fault order rest ≡ None = sym (fault_held order rest others (reaches p (file_of behind) rest begin.0.0 begin.1.own)) ∙ whole in
    let sizes = whole_sizes order rest held in
    let stored : stored_length order (rest ++ others) ≡ stored_length order rest = stored_held order rest others (omega (arith, sizes.long)) in
    let original : original_length order (rest ++ others) ≡ original_length order rest = number_behind 12 order rest others (omega (arith, sizes.long)) in
    (held, rw (stored, original) refl)
