-- What becomes of a front of a frame, and of the whole one.
use Rattle.std.proofs.Common.{◌≡◌, ◌≤◌, ◌+◌, ◌*◌, ◌/◌, ◌%◌, ◌^◌, ◌==◌, ◌&&◌, ◌||◌, ℕ, Bool, true, false, if◌then◌else◌, List, [], ◌∷◌, ◌++◌, length, take, drop, Option, Some, None, Result, Ok, Err, refl, sym, ap, subst, ◌∙◌, arith, append_assoc, length-append, length-drop}
use Rattle.std.specs.Prelude.{nat_lt, option_map, ok_or, slice_index}
use Rattle.std.specs.List.{flat_map}
use Rattle.std.specs.Result.{result_map_both}
use Rattle.std.proofs.lemmas.Bool.{le-ltb}
use Rattle.std.proofs.lemmas.List.{drop-append-le, take-append-le}
use Rattle.byteorder.specs.Endian.{big_number}
use Rattle.tag_view.specs.declared.fault.FrameFault.{FrameFault}
use Rattle.tag_view.specs.Tag.{TagFields, is_tag_type, tag_bytes}
use Rattle.tag_view.specs.Frame.{Reading, fault_of, frame_bytes, frame_of, is_cut, reading_of, tag_at, tags_of, type_at, with_tags}
use Rattle.tag_view.specs.Dscp.{dscp_of, traffic_class, upper_six}
use Rattle.tag_view.proofs.Readings.{frame_read}
use Rattle.vlan_rule.specs.Choice.{choice, entry_at, matches}
use Rattle.treatment.specs.Treatment.{treated}
use Rattle.mib_state.specs.Entities.{Entities}
use Rattle.frame_meaning.specs.declared.reason.Reason.{Reason}
use Rattle.frame_meaning.specs.declared.reason.Reason.TheVariants.{NoRule, RuleDiscard}
use Rattle.frame_meaning.specs.declared.verdict.Verdict.{Verdict}
use Rattle.frame_meaning.specs.declared.verdict.Verdict.TheVariants.{Forward, Drop}
use Rattle.frame_meaning.specs.Reason.{reason_of_fault}
use Rattle.frame_meaning.specs.Meaning.{Table, entry_for, forwarded_by, found_then, gem_port_at, input_tpid_of, meaning, table_at, tags_at, tags_by, verdict_of}

-- the front leaves as the whole frame does, without what stands behind it, or both are dropped
abbrev pub IsCutOf : List ℕ → Verdict → Verdict → Type 0
IsCutOf more (Forward gem front) (Forward whole_gem whole) = (gem ≡ whole_gem) × (frame_bytes whole ≡ frame_bytes front ++ more)
IsCutOf more (Drop reason) (Drop whole_reason) = Unit {0}
IsCutOf more verdict whole = ⊥

-- ---- the reading

two_read : (xs more : List ℕ) → 2 ≤ length xs → big_number 2 (xs ++ more) ≡ big_number 2 xs
two_read [] more long = absurd (omega (arith, long))
two_read (a ∷ []) more long = absurd (omega (arith, long))
two_read (a ∷ b ∷ xs) more long = refl

type_read : (place : ℕ) (xs more : List ℕ) → place + 2 ≤ length xs → type_at place (xs ++ more) ≡ type_at place xs
type_read place xs more long =
    ap (λ (l : List ℕ). big_number 2 l) (drop-append-le place xs more (omega (arith, long)))
    ∙ two_read (drop place xs) more (omega (arith, long, length-drop place xs))

-- a tag of two words
abbrev tag_by : ℕ → ℕ → TagFields
tag_by type control = record { tpid = type; pcp = control / 2 ^ 13; dei = control / 2 ^ 12 % 2 == 1; vid = control % 2 ^ 12 }

tag_read : (place : ℕ) (xs more : List ℕ) → place + 4 ≤ length xs → tag_at place (xs ++ more) ≡ tag_at place xs
tag_read place xs more long =
    let type : type_at place (xs ++ more) ≡ type_at place xs = type_read place xs more (omega (arith, long)) in
    let control : type_at (place + 2) (xs ++ more) ≡ type_at (place + 2) xs = type_read (place + 2) xs more (omega (arith, long)) in
    ap (λ (t : ℕ). tag_by t (type_at (place + 2) (xs ++ more))) type ∙ ap (λ (c : ℕ). tag_by (type_at place xs) c) control

-- the tags by whether there are two, one or none
abbrev tags_with : Bool → Bool → TagFields → TagFields → List TagFields
tags_with one two outer inner = if one then outer ∷ (if two then inner ∷ [] else []) else []

few_tags : (one two : Bool) (outer inner : TagFields) → length (tags_with one two outer inner) ≤ 2
few_tags false two outer inner = omega arith
few_tags true false outer inner = omega arith
few_tags true true outer inner = omega arith

module _ (input : ℕ) (front more : List ℕ) (enough : 24 ≤ length front) where
  abbrev behind : List ℕ
  behind = drop 12 front

  behind_long : 12 ≤ length behind
  behind_long = omega (arith, enough, length-drop 12 front)

  tags_read : tags_of input (drop 12 (front ++ more)) ≡ tags_of input behind
  tags_read =
      let first : is_tag_type input (type_at 0 (behind ++ more)) ≡ is_tag_type input (type_at 0 behind) =
      ap (λ (t : ℕ). is_tag_type input t) (type_read 0 behind more (omega (arith, behind_long))) in
      let second : is_tag_type input (type_at 4 (behind ++ more)) ≡ is_tag_type input (type_at 4 behind) =
      ap (λ (t : ℕ). is_tag_type input t) (type_read 4 behind more (omega (arith, behind_long))) in
      let outer : tag_at 0 (behind ++ more) ≡ tag_at 0 behind = tag_read 0 behind more (omega (arith, behind_long)) in
      let inner : tag_at 4 (behind ++ more) ≡ tag_at 4 behind = tag_read 4 behind more (omega (arith, behind_long)) in
      ap (λ (l : List ℕ). tags_of input l) (drop-append-le 12 front more (omega (arith, enough)))
      ∙ (λ i. tags_with (first i) (second i) (outer i) (inner i))

  few : length (tags_of input behind) ≤ 2
  few = few_tags (is_tag_type input (type_at 0 behind)) (is_tag_type input (type_at 4 behind)) (tag_at 0 behind) (tag_at 4 behind)

  abbrev read : Reading
  read = reading_of input front

  reading_more : reading_of input (front ++ more) ≡ record read { rest = read.rest ++ more }
  reading_more =
      let tags : List TagFields = tags_of input behind in
      let addresses : take 12 (front ++ more) ≡ take 12 front = take-append-le 12 front more (omega (arith, enough)) in
      let rest : drop (12 + 4 * length tags) (front ++ more) ≡ drop (12 + 4 * length tags) front ++ more =
      drop-append-le (12 + 4 * length tags) front more (omega (arith, enough, few)) in
      ap (λ (l : List TagFields). with_tags (front ++ more) (length l) l) tags_read
      ∙ ap (λ (a : List ℕ). record { addresses = a; tags = tags; rest = drop (12 + 4 * length tags) (front ++ more) }) addresses
      ∙ ap (λ (r : List ℕ). record { addresses = take 12 front; tags = tags; rest = r }) rest

  rest_long : 4 ≤ length read.rest
  rest_long = omega (arith, enough, few, length-drop (12 + 4 * length (tags_of input behind)) front)

not_cut : (x y : Bool) → (x && (false || y && false)) ≡ false
not_cut true true = refl
not_cut true false = refl
not_cut false y = refl

no_fault : (input : ℕ) (bytes : List ℕ) → 24 ≤ length bytes → fault_of input bytes ≡ None
unfolding fault_of
no_fault input bytes long =
    let enough : nat_lt (length bytes) 14 ≡ false = le-ltb (length bytes) 14 (omega (arith, long)) in
    let one : nat_lt (length bytes) 18 ≡ false = le-ltb (length bytes) 18 (omega (arith, long)) in
    let two : nat_lt (length bytes) 22 ≡ false = le-ltb (length bytes) 22 (omega (arith, long)) in
    let x : Bool = is_tag_type input (type_at 12 bytes) in
    let y : Bool = is_tag_type input (type_at 16 bytes) in
    let whole : is_cut input bytes ≡ false = (λ i. x && (one i || y && two i)) ∙ not_cut x y in
    rw (enough, whole) refl

frame_is : (input : ℕ) (bytes : List ℕ) → 24 ≤ length bytes → frame_of input bytes ≡ Ok (reading_of input bytes)
frame_is input bytes long = frame_read input bytes (reading_of input bytes) (no_fault input bytes long) refl

-- ---- what is made of a reading

dscp_read : (xs more : List ℕ) → 4 ≤ length xs → dscp_of (xs ++ more) ≡ dscp_of xs
unfolding dscp_of
dscp_read [] more long = absurd (omega (arith, long))
dscp_read (a ∷ []) more long = absurd (omega (arith, long))
dscp_read (a ∷ b ∷ []) more long = absurd (omega (arith, long))
dscp_read (a ∷ b ∷ c ∷ []) more long = absurd (omega (arith, long))
dscp_read (a ∷ b ∷ c ∷ d ∷ xs) more long =
    let all : List ℕ = a ∷ b ∷ c ∷ d ∷ xs in
    let whole : nat_lt (length (all ++ more)) 4 ≡ false = le-ltb (length (all ++ more)) 4 (omega (arith, length-append all more, long)) in
    let front : nat_lt (length all) 4 ≡ false = le-ltb (length all) 4 long in
    ap (λ (b : Bool). if b then None
    else (if type_at 0 all == 0x0800 then Some (upper_six (slice_index all 3)) else (if type_at 0 all == 0x86DD then Some (upper_six (traffic_class all)) else None)))
    (whole ∙ sym front)

module _ (r : Reading) (more : List ℕ) (long : 4 ≤ length r.rest) where
  abbrev whole_of : Reading
  whole_of = record r { rest = r.rest ++ more }

  type_same : type_at 0 (r.rest ++ more) ≡ type_at 0 r.rest
  type_same = type_read 0 r.rest more (omega (arith, long))

  tags_same : (table : Option Table) → tags_at table whole_of ≡ tags_at table r
  unfolding tags_at tags_by entry_for
  tags_same None = refl
  tags_same (Some table) =
      let dscp : dscp_of (r.rest ++ more) ≡ dscp_of r.rest = dscp_read r.rest more long in
      λ i.
      found_then (ok_or (option_map (entry_at table.entries) (choice (matches table.settings.input_tpid r.tags (type_same i)) table.entries)) NoRule)
      (λ entry. ok_or (treated entry table.settings r.tags (dscp i)) RuleDiscard)

-- the end of a frame of which a table makes these tags
abbrev ending : Result (List TagFields) Reason → (List TagFields → Result ℕ Reason) → Reading → Result (ℕ × Reading) Reason
ending tags gem_of frame = found_then tags (λ left. found_then (gem_of left) (λ gem. Ok (gem, record frame { tags = left })))

gem_cut : (gem : Result ℕ Reason) (left : List TagFields) (r : Reading) (more : List ℕ)
    → IsCutOf more (verdict_of (found_then gem (λ g. Ok (g, record r { tags = left }))))
    (verdict_of (found_then gem (λ g. Ok (g, record { addresses = r.addresses; tags = left; rest = r.rest ++ more }))))
gem_cut (Err reason) left r more = tt
gem_cut (Ok gem) left r more = (
  refl,
  ap (λ (l : List ℕ). r.addresses ++ l) (sym (append_assoc (flat_map tag_bytes left) r.rest more))
      ∙ sym (append_assoc r.addresses (flat_map tag_bytes left ++ r.rest) more),
)

ending_cut : (tags : Result (List TagFields) Reason) (gem_of : List TagFields → Result ℕ Reason) (r : Reading) (more : List ℕ)
    → IsCutOf more (verdict_of (ending tags gem_of r)) (verdict_of (ending tags gem_of (record r { rest = r.rest ++ more })))
ending_cut (Err reason) gem_of r more = tt
ending_cut (Ok left) gem_of r more = gem_cut (gem_of left) left r more

-- a frame that is read so
abbrev made : Entities → ℕ → Result Reading FrameFault → Result (ℕ × Reading) Reason
made e port read =
    found_then (result_map_both (λ (frame : Reading). frame) reason_of_fault read) (λ frame.
    ending (tags_at (table_at e port) frame) (λ tags. gem_port_at e port tags (dscp_of frame.rest)) frame)

meaning_read : (e : Entities) (port : ℕ) (bytes : List ℕ) (r : Reading) → frame_of (input_tpid_of (table_at e port)) bytes ≡ Ok r
    → meaning e port bytes ≡ verdict_of (ending (tags_at (table_at e port) r) (λ tags. gem_port_at e port tags (dscp_of r.rest)) r)
unfolding meaning forwarded_by
meaning_read e port bytes r is = ap (λ (read : Result Reading FrameFault). verdict_of (made e port read)) is

-- ---- the frame

pub meaning_cut : (e : Entities) (port : ℕ) (front more : List ℕ) → 24 ≤ length front
    → IsCutOf more (meaning e port front) (meaning e port (front ++ more))
meaning_cut e port front more enough =
    let input : ℕ = input_tpid_of (table_at e port) in
    let r : Reading = reading_of input front in
    let long : 4 ≤ length r.rest = rest_long input front more enough in
    let whole : Reading = record r { rest = r.rest ++ more } in
    let gem_of : List TagFields → Result ℕ Reason = λ tags. gem_port_at e port tags (dscp_of r.rest) in
    let tags : Result (List TagFields) Reason = tags_at (table_at e port) r in
    let of_front : meaning e port front ≡ verdict_of (ending tags gem_of r) = meaning_read e port front r (frame_is input front enough) in
    let is_whole : frame_of input (front ++ more) ≡ Ok whole =
    frame_is input (front ++ more) (omega (arith, enough, length-append front more)) ∙ ap (λ (x : Reading). Ok x) (reading_more input front more enough) in
    let dscp : dscp_of (r.rest ++ more) ≡ dscp_of r.rest = dscp_read r.rest more long in
    let same_tags : tags_at (table_at e port) whole ≡ tags = tags_same r more long (table_at e port) in
    let of_whole : meaning e port (front ++ more) ≡ verdict_of (ending tags gem_of whole) =
    meaning_read e port (front ++ more) whole is_whole
    ∙ (λ i. verdict_of (ending (same_tags i) (λ left. gem_port_at e port left (dscp i)) whole)) in
    subst (λ (v : Verdict). IsCutOf more v (meaning e port (front ++ more))) (sym of_front)
    (subst (λ (v : Verdict). IsCutOf more (verdict_of (ending tags gem_of r)) v) (sym of_whole) (ending_cut tags gem_of r more))
