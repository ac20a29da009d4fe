-- What a known text is answered once a replay is at its end.
use Rattle.std.proofs.Common.{◌≡◌, ℕ, suc, List, [], ◌∷◌, ◌++◌, Option, Some, None, Result, Ok, Err, take, refl, ap, ◌∙◌, arith, subst}
use Rattle.std.specs.Prelude.{option_map, IfSome}
use Rattle.std.proofs.lemmas.List.{append-nil}
use Rattle.std.proofs.KnownBytes.{Appends-trans, Appends-kept, Consumes-trans}
use Rattle.std.specs.Io.KnownBytes.{Appends, Consumes, IsAtEnd}
use Rattle.mib_upload.specs.Upload.{DeskState, start}
use Rattle.script_lines.specs.Line.{Asked}
use Rattle.script_replay.specs.Answers.{answers, answers_from, before_bad, script_of}
use Rattle.script_replay.specs.Finish.{Finishes, last_asked}
use Rattle.script_replay.specs.Replay.{ended_script, Replays, StopsAtLine}
use Rattle.script_replay.specs.declared.fault.ReplayFault.{ReplayFault}
use Rattle.script_replay.specs.declared.fault.ReplayFault.TheVariants.{BadLine, Read, Write, NoMemory}
use Rattle.script_replay.proofs.Ends.{ends_last_write, ends_ok, part_behind}
use Rattle.script_replay.proofs.Replaying.{SoFar, answers_at_end, before_at_end}

-- a read that gives nothing takes start
pub consumes_none : (known mid left : Option (List ℕ)) (read bytes : List ℕ) (n : ℕ) → n ≡ 0 → Consumes known mid read → Consumes mid left (take n bytes) → Consumes known left read
consumes_none known mid left read bytes n none first second =
    subst (λ all. Consumes known left all) (append-nil read) (Consumes-trans known mid left read [] first (rw none at second))

-- a first line that is bad has no answer
answers_none : (e : DeskState) (lines : List (Option Asked)) → before_bad lines ≡ Some 0 → answers_from e lines ≡ []
answers_none e [] bad = absurd (cc)
answers_none e (None ∷ lines) bad = refl
answers_none e (Some asked ∷ lines) bad = absurd (positive (before_bad lines) bad)
  where
    positive : (o : Option ℕ) → option_map suc o ≡ Some 0 → ⊥
    positive None h = absurd (cc)
    positive (Some n) h = let z : suc n ≡ 0 = cc in omega arith

ends_bad_at_end : (known left before after : Option (List ℕ)) (read : List ℕ) (n : ℕ) → Consumes known left read → IsAtEnd left → before_bad (script_of read) ≡ Some n → Appends before after (answers read)
    → IfSome known (λ text. StopsAtLine (suc n) text before after)
ends_bad_at_end None left before after read n took end bad written = tt
ends_bad_at_end (Some text) None before after read n took end bad written = absurd took
ends_bad_at_end (Some text) (Some rest) before after read n took end bad written =
    let whole : text ≡ read = took ∙ ap (λ r. read ++ r) end ∙ append-nil read in
    record { first = rw (whole, bad) refl; written = rw whole written }

module _ (known left before mid after : Option (List ℕ)) (read : List ℕ) (e : DeskState) (rest : List ℕ) (lines total : ℕ) (now : SoFar read e rest lines total)
    (took : Consumes known left read) (end : IsAtEnd left) (told : Appends before mid (answers_from start (ended_script read))) where
  pub finished : (result : Result (Unit {0}) ReplayFault) → Finishes e rest lines result mid after → IfSome known (λ text. Replays text result left before after)
  finished (Ok done) f =
      ends_ok known left before after read took end
      (before_at_end read e rest lines total now ∙ rw f.0 refl)
      (rw (answers_at_end read e rest lines total now) (Appends-trans before mid after _ _ told f.1))
  finished (Err (BadLine n)) f =
      let bad : before_bad (script_of read) ≡ Some lines = before_at_end read e rest lines total now ∙ rw f.1 (ap Some (omega arith)) in
      let same : answers read ≡ answers_from start (ended_script read) = answers_at_end read e rest lines total now ∙ rw (answers_none e (last_asked rest) f.1) (append-nil _) in
      let number : n ≡ suc lines = omega (arith, f.0) in
      rw number (ends_bad_at_end known left before after read lines took end bad (rw same (Appends-kept before mid after _ told f.2)))
  finished (Err Write) f =
      ends_last_write known left before after read took end (rw (answers_at_end read e rest lines total now) (part_behind before mid after _ _ told f))
  finished (Err (Read n)) f = absurd f
  finished (Err NoMemory) f = absurd f
