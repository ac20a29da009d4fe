-- A frame that leaves has the addresses and the last bytes of the one that came in: no step of its meaning touches them.
use Rattle.std.proofs.Common.{◌≡◌, ℕ, ◌+◌, ◌-◌, ◌*◌, List, length, drop, Some, None, Result, Ok, Err, arith, refl, ap, ◌∙◌, sym, inl, inr, length-drop}
use Rattle.std.proofs.lemmas.Bool.{cases_lt}
use Rattle.std.proofs.lemmas.List.{drop_all}
use Rattle.tag_view.specs.Dscp.{dscp_of}
use Rattle.tag_view.specs.Frame.{Reading, fault_of, frame_of, reading_of, tags_of}
use Rattle.tag_view.specs.Tag.{TagFields}
use Rattle.mib_state.specs.Entities.{Entities}
use Rattle.frame_meaning.specs.Meaning.{forwarded_by, found_then, gem_port_at, input_tpid_of, meaning, read_at, table_at, tags_at, verdict_of}
use Rattle.frame_meaning.specs.declared.reason.Reason.{Reason}
use Rattle.onu_unit.specs.Ends.{HasEnds, KeepsEnds}

-- what a list keeps behind m items are as many of its last ones
last_items : (m : ℕ) (bytes : List ℕ) → drop m bytes ≡ drop (length bytes - length (drop m bytes)) bytes
last_items m bytes =
    elim (cases_lt (length bytes) m) [
      | inl over ↦
          let none : length (drop m bytes) ≡ 0 = omega (arith, length-drop m bytes) in
          drop_all m bytes (omega arith) ∙ sym (drop_all (length bytes - length (drop m bytes)) bytes (omega arith))
      | inr within ↦
          let place : length bytes - length (drop m bytes) ≡ m = omega (arith, length-drop m bytes) in
          ap (λ (n : ℕ). drop n bytes) (sym place)
    ]

-- a frame as it is read
of_reading : (input : ℕ) (bytes : List ℕ) → HasEnds bytes (reading_of input bytes)
of_reading input bytes = record { addresses = refl; rest = last_items (12 + 4 * length (tags_of input (drop 12 bytes))) bytes }

-- what was found so far, a GEM port or a reason
abbrev Keeps : List ℕ → Result (ℕ × Reading) Reason → Type 0
Keeps bytes found = KeepsEnds bytes (verdict_of found)

by_gem : (bytes : List ℕ) (frame : Reading) (tags : List TagFields) (gem : Result ℕ Reason) → HasEnds bytes frame
    → Keeps bytes (found_then gem (λ gem. Ok (gem, record frame { tags = tags })))
by_gem bytes frame tags (Ok gem) ends = record { addresses = ends.addresses; rest = ends.rest }
by_gem bytes frame tags (Err reason) ends = tt

by_tags : (bytes : List ℕ) (frame : Reading) (gem_of : List TagFields → Result ℕ Reason) (tags : Result (List TagFields) Reason) → HasEnds bytes frame
    → Keeps bytes (found_then tags (λ tags. found_then (gem_of tags) (λ gem. Ok (gem, record frame { tags = tags }))))
by_tags bytes frame gem_of (Ok tags) ends = by_gem bytes frame tags (gem_of tags) ends
by_tags bytes frame gem_of (Err reason) ends = tt

-- from a frame that was read on
abbrev from_read : Entities → ℕ → Reading → Result (ℕ × Reading) Reason
from_read e port frame =
    found_then (tags_at (table_at e port) frame) (λ tags.
    found_then (gem_port_at e port tags (dscp_of frame.rest)) (λ gem.
    Ok (gem, record frame { tags = tags })))

read_keeps : (e : Entities) (port : ℕ) (bytes : List ℕ) (frame : Reading) → HasEnds bytes frame → Keeps bytes (from_read e port frame)
read_keeps e port bytes frame ends = by_tags bytes frame (λ tags. gem_port_at e port tags (dscp_of frame.rest)) (tags_at (table_at e port) frame) ends

-- what becomes of a frame keeps its ends
pub meaning_keeps : (e : Entities) (port : ℕ) (bytes : List ℕ) → KeepsEnds bytes (meaning e port bytes)
unfolding meaning forwarded_by frame_of
meaning_keeps e port bytes =
    let input = input_tpid_of (table_at e port) in
    elim (fault_of input bytes) as (λ o. fault_of input bytes ≡ o → Keeps bytes (found_then (read_at (table_at e port) bytes) (from_read e port))) [
      | None ↦ λ none. rw none (read_keeps e port bytes (reading_of input bytes) (of_reading input bytes))
      | Some fault ↦ λ some. rw some tt
    ] refl
