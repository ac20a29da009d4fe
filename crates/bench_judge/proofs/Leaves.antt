-- A frame that leaves has the addresses and the last bytes of the one that came.
use Rattle.std.proofs.Common.{◌≡◌, ℕ, ◌+◌, ◌-◌, ◌*◌, List, length, take, drop, Some, None, Result, Ok, Err, arith, refl, ap, ap₂, ◌∙◌, sym, subst, inl, inr, length-drop}
use Rattle.std.proofs.lemmas.Bool.{cases_lt}
use Rattle.std.proofs.lemmas.List.{drop_all}
use Rattle.tag_view.specs.Dscp.{dscp_of}
use Rattle.tag_view.specs.Frame.{Reading, fault_of, frame_of, reading_of, spelled, tags_of}
use Rattle.tag_view.specs.Tag.{TagFields}
use Rattle.mib_state.specs.Entities.{Entities}
use Rattle.frame_meaning.specs.Meaning.{forwarded_by, found_then, gem_port_at, input_tpid_of, meaning, read_at, table_at, tags_at, verdict_of}
use Rattle.frame_meaning.specs.declared.reason.Reason.{Reason}
use Rattle.frame_meaning.specs.declared.verdict.Verdict.TheVariants.{Forward}
use Rattle.bench_judge.specs.Judged.{IsAnswer}
use Rattle.bench_judge.specs.declared.judgement.Answer.TheVariants.{Left}
use Rattle.bench_judge.specs.declared.judgement.Leaving.{Leaving}

-- a frame has the addresses and the last bytes of others
pub record HasEnds (sent : List ℕ) (frame : Reading) : Type 0 where
  pub addresses : frame.addresses ≡ take 12 sent
  pub rest : frame.rest ≡ drop (length sent - length frame.rest) sent

abbrev LeavesEnds : List ℕ → Result (ℕ × Reading) Reason → Type 0
LeavesEnds sent (Ok (gem, frame)) = HasEnds sent frame
LeavesEnds sent (Err reason) = Unit {0}

behind_is : (m : ℕ) (bytes : List ℕ) → drop m bytes ≡ drop (length bytes - length (drop m bytes)) bytes
behind_is m bytes =
    elim (cases_lt (length bytes) m) [
      | inl short ↦
          let none : length (drop m bytes) ≡ 0 = omega (arith, length-drop m bytes) in
          drop_all m bytes (omega arith) ∙ sym (drop_all (length bytes - length (drop m bytes)) bytes (omega arith))
      | inr long ↦
          let at : length bytes - length (drop m bytes) ≡ m = omega (arith, length-drop m bytes) in
          ap (λ (k : ℕ). drop k bytes) (sym at)
    ]

reading_ends : (input : ℕ) (bytes : List ℕ) → HasEnds bytes (reading_of input bytes)
reading_ends input bytes = record { addresses = refl; rest = behind_is (12 + 4 * length (tags_of input (drop 12 bytes))) bytes }

ends_by_gem : (sent : List ℕ) (frame : Reading) (tags : List TagFields) (gem : Result ℕ Reason) → HasEnds sent frame
    → LeavesEnds sent (found_then gem (λ gem. Ok (gem, record frame { tags = tags })))
ends_by_gem sent frame tags (Ok gem) ends = record { addresses = ends.addresses; rest = ends.rest }
ends_by_gem sent frame tags (Err reason) ends = tt

ends_by_tags : (sent : List ℕ) (frame : Reading) (gem_of : List TagFields → Result ℕ Reason) (tags : Result (List TagFields) Reason) → HasEnds sent frame
    → LeavesEnds sent (found_then tags (λ tags. found_then (gem_of tags) (λ gem. Ok (gem, record frame { tags = tags }))))
ends_by_tags sent frame gem_of (Ok tags) ends = ends_by_gem sent frame tags (gem_of tags) ends
ends_by_tags sent frame gem_of (Err reason) ends = tt

abbrev leaving : Entities → ℕ → Reading → Result (ℕ × Reading) Reason
leaving e port frame =
    found_then (tags_at (table_at e port) frame) (λ tags.
    found_then (gem_port_at e port tags (dscp_of frame.rest)) (λ gem.
    Ok (gem, record frame { tags = tags })))

leaves_ends : (e : Entities) (port : ℕ) (sent : List ℕ) (frame : Reading) → HasEnds sent frame → LeavesEnds sent (leaving e port frame)
leaves_ends e port sent frame ends = ends_by_tags sent frame (λ tags. gem_port_at e port tags (dscp_of frame.rest)) (tags_at (table_at e port) frame) ends

forwarded_ends : (e : Entities) (port : ℕ) (sent : List ℕ) → LeavesEnds sent (forwarded_by e port sent)
unfolding forwarded_by frame_of
forwarded_ends e port sent =
    let input = input_tpid_of (table_at e port) in
    elim (fault_of input sent) as (λ o. fault_of input sent ≡ o → LeavesEnds sent (found_then (read_at (table_at e port) sent) (leaving e port))) [
      | None ↦ λ none. rw none (leaves_ends e port sent (reading_of input sent) (reading_ends input sent))
      | Some fault ↦ λ some. rw some tt
    ] refl

ends_of : (sent : List ℕ) (left : Result (ℕ × Reading) Reason) (gem : ℕ) (frame : Reading) → LeavesEnds sent left → verdict_of left ≡ Forward gem frame → HasEnds sent frame
ends_of sent (Ok (g, r)) gem frame ends is = let same : r ≡ frame = cc is in subst (HasEnds sent) same ends
ends_of sent (Err reason) gem frame ends is = absurd (cc is)

-- of a frame that leaves
pub meaning_ends : (e : Entities) (port : ℕ) (sent : List ℕ) (gem : ℕ) (frame : Reading) → meaning e port sent ≡ Forward gem frame → HasEnds sent frame
unfolding meaning
meaning_ends e port sent gem frame is = ends_of sent (forwarded_by e port sent) gem frame (forwarded_ends e port sent) is

-- what stands for a frame that leaves is its answer
pub answer_left : (e : Entities) (port : ℕ) (sent : List ℕ) (gem : ℕ) (frame : Reading) (l : Leaving) → meaning e port sent ≡ Forward gem frame
    → gem ≡ l.gem → l.tags.items ≡ frame.tags → l.rest ≡ length frame.rest → IsAnswer (meaning e port sent) sent (Left l)
answer_left e port sent gem frame l is same tags rest =
    let ends = meaning_ends e port sent gem frame is in
    subst (λ v. IsAnswer v sent (Left l)) (sym is) (
      same,
      ap₂ (λ a r. spelled a frame.tags r) ends.addresses (ends.rest ∙ ap (λ n. drop (length sent - n) sent) (sym rest))
          ∙ ap (λ t. spelled (take 12 sent) t (drop (length sent - l.rest) sent)) (sym tags),
    )
