-- The class of a frame is that of bytes that begin as it does.
use Rattle.std.proofs.Common.{◌≡◌, ℕ, ◌+◌, ◌<◌, ◌≤◌, ◌^◌, List, [], ◌∷◌, ◌++◌, length, take, drop, Some, refl, ap, sym, ◌∙◌, inl, inr, arith, length-append, length-drop}
use Rattle.std.specs.Prelude.{All}
use Rattle.std.proofs.lemmas.Bool.{cases_lt}
use Rattle.std.proofs.lemmas.List.{drop-append-le, take-append-drop, take_all}
use Rattle.tag_view.specs.Frame.{type_at}
use Rattle.mib_state.specs.Entities.{Entities}
use Rattle.frame_rows.specs.declared.class.Ending.{Ending}
use Rattle.frame_rows.specs.declared.class.FrameClass.{FrameClass}
use Rattle.frame_rows.specs.declared.field.Values.{Values}
use Rattle.frame_rows.specs.declared.row.Row.{Row}
use Rattle.frame_rows.specs.Class.{class_of}
use Rattle.frame_rows.specs.Field.{values_of}
use Rattle.frame_rows.specs.Row.{class_by}
use Rattle.frame_rows.specs.Rows.{Mean}
use Rattle.script_heads.specs.Heads.{IsHeadOf}

number_front : (zs x y : List ℕ) → 2 ≤ length zs → type_at 0 (zs ++ x) ≡ type_at 0 (zs ++ y)
number_front [] x y long = absurd (omega arith)
number_front (a ∷ []) x y long = absurd (omega arith)
number_front (a ∷ b ∷ zs) x y long = refl

type_front : (p : ℕ) (h x y : List ℕ) → p + 2 ≤ length h → type_at p (h ++ x) ≡ type_at p (h ++ y)
type_front p h x y fits =
    ap (type_at 0) (drop-append-le p h x (omega arith))
    ∙ number_front (drop p h) x y (omega (arith, length-drop p h))
    ∙ ap (type_at 0) (sym (drop-append-le p h y (omega arith)))

values_behind : (h x y : List ℕ) → length h ≡ 24 → length x ≡ length y → values_of (h ++ x) ≡ values_of (h ++ y)
unfolding values_of
values_behind h x y whole same =
    let len : length (h ++ x) ≡ length (h ++ y) = omega (arith, length-append h x, length-append h y) in
    let first = type_front 12 h x y (omega arith) in
    let second = type_front 14 h x y (omega arith) in
    let third = type_front 16 h x y (omega arith) in
    let fourth = type_front 18 h x y (omega arith) in
    let fifth = type_front 20 h x y (omega arith) in
    let sixth = type_front 22 h x y (omega arith) in
    rw (len, first, second, third, fourth, fifth, sixth) refl

values_alike : (bytes head : List ℕ) → IsHeadOf bytes head → values_of bytes ≡ values_of head
values_alike bytes head is =
    elim (cases_lt (length bytes) 24) [
      | inl short ↦
          let same : head ≡ bytes = sym (take_all 24 head (omega (arith, is.len))) ∙ is.front ∙ take_all 24 bytes (omega arith) in
          ap values_of (sym same)
      | inr long ↦
          let h = take 24 bytes in
          let x = drop 24 bytes in
          let y = drop 24 head in
          let of_bytes : h ++ x ≡ bytes = take-append-drop 24 bytes in
          let of_head : h ++ y ≡ head = ap (λ (front : List ℕ). front ++ y) (sym is.front) ∙ take-append-drop 24 head in
          let whole : length h ≡ 24 = omega (arith, ap length of_bytes, length-append h x, length-drop 24 bytes) in
          let behind : length x ≡ length y = omega (arith, is.len, length-drop 24 bytes, length-drop 24 head) in
          ap values_of (sym of_bytes) ∙ values_behind h x y whole behind ∙ ap values_of of_head
    ]

same_inside : (one other : FrameClass) → Some one ≡ Some other → one ≡ other
same_inside one other is = cc is

pub class_alike : (e : Entities) (port : ℕ) (endings : List Ending) (rows : List Row) (bytes head : List ℕ) → Mean e port endings rows
    → All (λ b. b < 2 ^ 8) bytes → All (λ b. b < 2 ^ 8) head → IsHeadOf bytes head → class_of e port head ≡ class_of e port bytes
class_alike e port endings rows bytes head mean fits fit is =
    same_inside (class_of e port head) (class_of e port bytes)
    (sym (mean.class head fit) ∙ ap (λ (values : Values). class_by endings rows values) (sym (values_alike bytes head is)) ∙ mean.class bytes fits)
