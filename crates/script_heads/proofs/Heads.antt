-- What becomes of a frame is decided by its front, but for the rest that it leaves with.
use Rattle.std.proofs.Common.{◌≡◌, ◌≤◌, ℕ, ◌+◌, ◌-◌, ◌*◌, ◌/◌, min, true, false, List, [], ◌∷◌, ◌++◌, length, take, drop, Option, Some, None, Result, Ok, Err, arith, refl, ap, ◌∙◌, sym, subst, inl, inr, length-append, length-drop, length-take}
use Rattle.std.proofs.lemmas.Bool.{cases_lt}
use Rattle.std.proofs.lemmas.List.{drop_all, drop-append-le, length-take-le, take_all, take_at, take-append-drop, take-append-le, take-take}
use Rattle.hex.specs.Hex.{decode_of}
use Rattle.hex.proofs.HexLemmas.{decode_of-ok}
use Rattle.tag_view.specs.declared.fault.FrameFault.{FrameFault}
use Rattle.tag_view.specs.Dscp.{dscp_of}
use Rattle.tag_view.specs.Frame.{Reading, fault_of, frame_of, reading_of, tags_of, type_at}
use Rattle.tag_view.specs.Tag.{TagFields, is_tag_type}
use Rattle.frame_meaning.specs.Meaning.{Table, entry_for, forwarded_by, found_then, gem_port_at, input_tpid_of, meaning, table_at, tags_at, tags_by, verdict_of}
use Rattle.frame_meaning.specs.Reason.{reason_of_fault}
use Rattle.frame_meaning.specs.declared.reason.Reason.{Reason}
use Rattle.frame_meaning.specs.declared.verdict.Verdict.{Verdict}
use Rattle.frame_meaning.specs.declared.verdict.Verdict.TheVariants.{Forward, Drop}
use Rattle.mib_state.specs.Entities.{Entities}
use Rattle.script_heads.specs.Heads.{IsHeadOf}

-- ---- what begins alike

number_front : (zs x y : List ℕ) → 2 ≤ length zs → type_at 0 (zs ++ x) ≡ type_at 0 (zs ++ y)
number_front [] x y long = absurd (omega arith)
number_front (a ∷ []) x y long = absurd (omega arith)
number_front (a ∷ b ∷ zs) x y long = refl

type_front : (p : ℕ) (h x y : List ℕ) → p + 2 ≤ length h → type_at p (h ++ x) ≡ type_at p (h ++ y)
type_front p h x y fits =
    ap (type_at 0) (drop-append-le p h x (omega arith))
    ∙ number_front (drop p h) x y (omega (arith, length-drop p h))
    ∙ ap (type_at 0) (sym (drop-append-le p h y (omega arith)))

dscp_front : (zs x y : List ℕ) → 4 ≤ length zs → length x ≡ length y → dscp_of (zs ++ x) ≡ dscp_of (zs ++ y)
unfolding dscp_of
dscp_front [] x y long same = absurd (omega arith)
dscp_front (a ∷ []) x y long same = absurd (omega arith)
dscp_front (a ∷ b ∷ []) x y long same = absurd (omega arith)
dscp_front (a ∷ b ∷ c ∷ []) x y long same = absurd (omega arith)
dscp_front (a ∷ b ∷ c ∷ d ∷ zs) x y long same =
    let len : length (a ∷ b ∷ c ∷ d ∷ (zs ++ x)) ≡ length (a ∷ b ∷ c ∷ d ∷ (zs ++ y)) = omega (arith, length-append zs x, length-append zs y) in
    rw len refl

tags_front : (input : ℕ) (g x y : List ℕ) → 8 ≤ length g → tags_of input (g ++ x) ≡ tags_of input (g ++ y)
tags_front input [] x y long = absurd (omega arith)
tags_front input (a ∷ []) x y long = absurd (omega arith)
tags_front input (a ∷ b ∷ []) x y long = absurd (omega arith)
tags_front input (a ∷ b ∷ c ∷ []) x y long = absurd (omega arith)
tags_front input (a ∷ b ∷ c ∷ d ∷ []) x y long = absurd (omega arith)
tags_front input (a ∷ b ∷ c ∷ d ∷ e ∷ []) x y long = absurd (omega arith)
tags_front input (a ∷ b ∷ c ∷ d ∷ e ∷ f ∷ []) x y long = absurd (omega arith)
tags_front input (a ∷ b ∷ c ∷ d ∷ e ∷ f ∷ g ∷ []) x y long = absurd (omega arith)
tags_front input (a ∷ b ∷ c ∷ d ∷ e ∷ f ∷ g ∷ h ∷ zs) x y long = refl

at_most_two : (input : ℕ) (bytes : List ℕ) → length (tags_of input bytes) ≤ 2
at_most_two input bytes =
    elim (is_tag_type input (type_at 0 bytes)) as (λ b. is_tag_type input (type_at 0 bytes) ≡ b → length (tags_of input bytes) ≤ 2) [
      | false ↦ λ none. rw none (omega arith)
      | true ↦ λ one.
          elim (is_tag_type input (type_at 4 bytes)) as (λ b. is_tag_type input (type_at 4 bytes) ≡ b → length (tags_of input bytes) ≤ 2) [
            | false ↦ λ no_more. rw (one, no_more) (omega arith)
            | true ↦ λ two. rw (one, two) (omega arith)
          ] refl
    ] refl

-- ---- frames that are read alike

record AreAlike (frame head : Reading) : Type 0 where
  addresses : frame.addresses ≡ head.addresses
  tags : frame.tags ≡ head.tags
  type : type_at 0 frame.rest ≡ type_at 0 head.rest
  dscp : dscp_of frame.rest ≡ dscp_of head.rest

alike_at : (m : ℕ) (h x y : List ℕ) → m + 4 ≤ length h → length x ≡ length y
    → (type_at 0 (drop m (h ++ x)) ≡ type_at 0 (drop m (h ++ y))) × (dscp_of (drop m (h ++ x)) ≡ dscp_of (drop m (h ++ y)))
alike_at m h x y fits same =
    let of_x = drop-append-le m h x (omega arith) in
    let of_y = drop-append-le m h y (omega arith) in
    let long : 4 ≤ length (drop m h) = omega (arith, length-drop m h) in (
      rw (of_x, of_y) (number_front (drop m h) x y (omega arith)),
      rw (of_x, of_y) (dscp_front (drop m h) x y long same),
    )

alike_behind : (input : ℕ) (h x y : List ℕ) → length h ≡ 24 → length x ≡ length y → AreAlike (reading_of input (h ++ x)) (reading_of input (h ++ y))
alike_behind input h x y whole same =
    let of_x = drop-append-le 12 h x (omega arith) in
    let of_y = drop-append-le 12 h y (omega arith) in
    let tags : tags_of input (drop 12 (h ++ x)) ≡ tags_of input (drop 12 (h ++ y)) =
    ap (tags_of input) of_x ∙ tags_front input (drop 12 h) x y (omega (arith, length-drop 12 h)) ∙ ap (tags_of input) (sym of_y) in
    let n = length (tags_of input (drop 12 (h ++ y))) in
    let two : n ≤ 2 = at_most_two input (drop 12 (h ++ y)) in
    let rest = alike_at (12 + 4 * n) h x y (omega arith) same in
    let count : length (tags_of input (drop 12 (h ++ x))) ≡ n = ap length tags in
    record {
      addresses = take-append-le 12 h x (omega arith) ∙ sym (take-append-le 12 h y (omega arith));
      tags = tags;
      type = ap (λ (k : ℕ). type_at 0 (drop (12 + 4 * k) (h ++ x))) count ∙ rest.0;
      dscp = ap (λ (k : ℕ). dscp_of (drop (12 + 4 * k) (h ++ x))) count ∙ rest.1;
    }

same_alike : (frame : Reading) → AreAlike frame frame
same_alike frame = record { addresses = refl; tags = refl; type = refl; dscp = refl }

same_fault : (input : ℕ) (h x y : List ℕ) → length h ≡ 24 → length x ≡ length y → fault_of input (h ++ x) ≡ fault_of input (h ++ y)
unfolding fault_of
same_fault input h x y whole same =
    let len : length (h ++ x) ≡ length (h ++ y) = omega (arith, length-append h x, length-append h y) in
    let first = type_front 12 h x y (omega arith) in
    let second = type_front 16 h x y (omega arith) in
    rw (len, first, second) refl

-- a frame and a head of it are read alike
record AreReadAlike (input : ℕ) (frame head : List ℕ) : Type 0 where
  fault : fault_of input frame ≡ fault_of input head
  reading : AreAlike (reading_of input frame) (reading_of input head)

read_alike : (input : ℕ) (frame head : List ℕ) → IsHeadOf frame head → AreReadAlike input frame head
read_alike input frame head is =
    elim (cases_lt (length frame) 24) [
      | inl short ↦
          let same : head ≡ frame = sym (take_all 24 head (omega (arith, is.len))) ∙ is.front ∙ take_all 24 frame (omega arith) in
          subst (AreReadAlike input frame) (sym same) (record { fault = refl; reading = same_alike (reading_of input frame) })
      | inr long ↦
          let h = take 24 frame in
          let x = drop 24 frame in
          let y = drop 24 head in
          let of_frame : h ++ x ≡ frame = take-append-drop 24 frame in
          let of_head : h ++ y ≡ head = ap (λ (front : List ℕ). front ++ y) (sym is.front) ∙ take-append-drop 24 head in
          let whole : length h ≡ 24 = omega (arith, ap length of_frame, length-append h x, length-drop 24 frame) in
          let behind : length x ≡ length y = omega (arith, is.len, length-drop 24 frame, length-drop 24 head) in
          let known : AreReadAlike input (h ++ x) (h ++ y) = record { fault = same_fault input h x y whole behind; reading = alike_behind input h x y whole behind } in
          subst (λ f. AreReadAlike input f head) of_frame (subst (AreReadAlike input (h ++ x)) of_head known)
    ]

-- ---- what becomes of them

-- the frame that leaves, by the reading of the one that came
abbrev leaving : Entities → ℕ → Reading → Result (ℕ × Reading) Reason
leaving e port frame =
    found_then (tags_at (table_at e port) frame) (λ tags.
    found_then (gem_port_at e port tags (dscp_of frame.rest)) (λ gem.
    Ok (gem, record frame { tags = tags })))

-- what leaves, with another rest
abbrev with_behind : List ℕ → Result (ℕ × Reading) Reason → Result (ℕ × Reading) Reason
with_behind rest (Ok (gem, frame)) = Ok (gem, record frame { rest = rest })
with_behind rest (Err reason) = Err reason

same_tags : (table : Option Table) (frame head : Reading) → AreAlike frame head → tags_at table frame ≡ tags_at table head
unfolding tags_at tags_by entry_for
same_tags None frame head alike = ap Ok alike.tags
same_tags (Some table) frame head alike = rw (alike.tags, alike.type, alike.dscp) refl

leaving_alike : (e : Entities) (port : ℕ) (frame head : Reading) → AreAlike frame head
    → leaving e port frame ≡ with_behind frame.rest (leaving e port head)
leaving_alike e port frame head alike = by_tags (tags_at (table_at e port) head) (same_tags (table_at e port) frame head alike) refl
  where
    by_gem : (tags : List TagFields) (gem : Result ℕ Reason) → gem_port_at e port tags (dscp_of head.rest) ≡ gem
        → found_then (gem_port_at e port tags (dscp_of frame.rest)) (λ gem. Ok (gem, record frame { tags = tags }))
        ≡ with_behind frame.rest (found_then (gem_port_at e port tags (dscp_of head.rest)) (λ gem. Ok (gem, record head { tags = tags })))
    by_gem tags (Ok gem) is =
        rw (alike.dscp, is) (ap (λ (a : List ℕ). Ok (gem, record { addresses = a; tags = tags; rest = frame.rest })) alike.addresses)
    by_gem tags (Err reason) is = rw (alike.dscp, is) refl

    by_tags : (tags : Result (List TagFields) Reason) → tags_at (table_at e port) frame ≡ tags → tags_at (table_at e port) head ≡ tags
        → leaving e port frame ≡ with_behind frame.rest (leaving e port head)
    by_tags (Ok tags) of_frame of_head = rw (of_frame, of_head) (by_gem tags (gem_port_at e port tags (dscp_of head.rest)) refl)
    by_tags (Err reason) of_frame of_head = rw (of_frame, of_head) refl

-- the rest of what leaves is that of what came
rest_kept : (e : Entities) (port : ℕ) (head : Reading) → leaving e port head ≡ with_behind head.rest (leaving e port head)
rest_kept e port head = leaving_alike e port head head (same_alike head)

-- what becomes of a frame by its head: its own bytes stand behind the tags
abbrev pub with_rest : List ℕ → Verdict → Verdict
with_rest bytes (Forward gem frame) = Forward gem (record frame { rest = drop (length bytes - length frame.rest) bytes })
with_rest bytes (Drop reason) = Drop reason

-- what is behind so many bytes is as long as it is
behind_is : (m : ℕ) (bytes head : List ℕ) → length head ≡ length bytes → drop (length bytes - length (drop m head)) bytes ≡ drop m bytes
behind_is m bytes head same =
    elim (cases_lt (length bytes) m) [
      | inl short ↦
          let none : length (drop m head) ≡ 0 = omega (arith, length-drop m head) in
          drop_all (length bytes - length (drop m head)) bytes (omega arith) ∙ sym (drop_all m bytes (omega arith))
      | inr long ↦
          let at : length bytes - length (drop m head) ≡ m = omega (arith, length-drop m head) in
          ap (λ (k : ℕ). drop k bytes) at
    ]

with_rest_of : (m : ℕ) (bytes head : List ℕ) (left : Result (ℕ × Reading) Reason) → length head ≡ length bytes
    → verdict_of (with_behind (drop m bytes) left) ≡ with_rest bytes (verdict_of (with_behind (drop m head) left))
with_rest_of m bytes head (Ok (gem, frame)) same =
    ap (λ (rest : List ℕ). Forward gem (record frame { rest = rest })) (sym (behind_is m bytes head same))
with_rest_of m bytes head (Err reason) same = refl

module _ (e : Entities) (port : ℕ) (bytes head : List ℕ) (is : IsHeadOf bytes head) where
  input : ℕ
  input = input_tpid_of (table_at e port)

  alike : AreReadAlike input bytes head
  alike = read_alike input bytes head is

  meant : (fault : Option FrameFault) → fault_of input head ≡ fault → meaning e port bytes ≡ with_rest bytes (meaning e port head)
  unfolding meaning forwarded_by frame_of input
  meant None none =
      let of_bytes = alike.fault ∙ none in
      let ends = leaving_alike e port (reading_of input bytes) (reading_of input head) alike.reading in
      let kept = rest_kept e port (reading_of input head) in
      let n = length (tags_of input (drop 12 head)) in
      let count : length (tags_of input (drop 12 bytes)) ≡ n = ap length alike.reading.tags in
      let last : with_behind (reading_of input bytes).rest (leaving e port (reading_of input head)) ≡ with_behind (drop (12 + 4 * n) bytes) (leaving e port (reading_of input head)) =
      ap (λ (k : ℕ). with_behind (drop (12 + 4 * k) bytes) (leaving e port (reading_of input head))) count in
      rw (of_bytes, none)
      (ap verdict_of (ends ∙ last) ∙ with_rest_of (12 + 4 * n) bytes head (leaving e port (reading_of input head)) is.len
      ∙ ap (λ (left : _). with_rest bytes (verdict_of left)) (sym kept))
  meant (Some fault) some =
      let of_bytes = alike.fault ∙ some in
      rw (of_bytes, some) refl

  pub meant_by_head : meaning e port bytes ≡ with_rest bytes (meaning e port head)
  meant_by_head = meant (fault_of input head) refl

abbrev rest_in : Verdict → List ℕ
rest_in (Forward gem frame) = frame.rest
rest_in (Drop reason) = []

rest_of : (rest : List ℕ) (left : Result (ℕ × Reading) Reason) (gem : ℕ) (frame : Reading) → verdict_of (with_behind rest left) ≡ Forward gem frame → rest ≡ frame.rest
rest_of rest (Ok (g, f)) gem frame is = ap rest_in is
rest_of rest (Err reason) gem frame is = cc is

-- the rest of a frame that leaves is no longer than the frame that came
pub rest_within : (e : Entities) (port : ℕ) (bytes : List ℕ) (gem : ℕ) (frame : Reading) → meaning e port bytes ≡ Forward gem frame → length frame.rest ≤ length bytes
unfolding meaning forwarded_by frame_of
rest_within e port bytes gem frame is = by_fault (fault_of input bytes) refl
  where
    input : ℕ
    input = input_tpid_of (table_at e port)

    reading : Reading
    reading = reading_of input bytes

    by_fault : (fault : Option FrameFault) → fault_of input bytes ≡ fault → length frame.rest ≤ length bytes
    by_fault None none =
        let left : verdict_of (leaving e port (reading_of input bytes)) ≡ Forward gem frame = rw none at is in
        let same = rest_of (reading_of input bytes).rest (leaving e port (reading_of input bytes)) gem frame (ap verdict_of (sym (rest_kept e port (reading_of input bytes))) ∙ left) in
        omega (arith, ap length same, length-drop (12 + 4 * length (tags_of input (drop 12 bytes))) bytes)
    by_fault (Some fault) some =
        let no : Drop (reason_of_fault fault) ≡ Forward gem frame = rw some at is in
        cc

-- ---- the head, as it is read

-- so many bytes of a buffer into which the first bytes were read
pub head_read : (digits bytes new buffer : List ℕ) (known : ℕ) → decode_of digits ≡ Ok bytes → known ≡ min (length digits / 2) 24
    → new ≡ take known bytes → length digits / 2 ≤ length buffer → IsHeadOf bytes (take (length digits / 2) (new ++ drop known buffer))
head_read digits bytes new buffer known is count read room =
    let twice : length digits ≡ 2 * length bytes = (decode_of-ok digits bytes is).2 in
    let n = length digits / 2 in
    let rest = drop known buffer in
    let same : n ≡ length bytes = omega arith in
    let fits : known ≤ length bytes = omega arith in
    let long : length new ≡ known = ap length read ∙ length-take-le known bytes fits in
    record {
      len = omega (arith, length-take n (new ++ rest), length-append new rest, length-drop known buffer);
      front = elim (cases_lt n 24) [
        | inl short ↦
            let all : known ≡ n = omega arith in
            ap (take 24) (take_at new rest n (long ∙ all) ∙ read ∙ take_all known bytes (omega arith))
        | inr enough ↦
            let top : known ≡ 24 = omega arith in
            take-take 24 n (new ++ rest) (omega arith) ∙ take_at new rest 24 (long ∙ top) ∙ read ∙ ap (λ (k : ℕ). take k bytes) top
      ];
    }
