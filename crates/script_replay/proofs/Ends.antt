-- What is said of a known text, from the bytes that were read of it.
use Rattle.std.proofs.Common.{◌≡◌, ℕ, suc, ◌+◌, List, ◌++◌, Option, Some, None, Err, length, take, refl, sym, ap, ◌∙◌, arith, length-append, inl, inr}
use Rattle.std.specs.Prelude.{IfSome}
use Rattle.std.proofs.lemmas.List.{append-nil}
use Rattle.std.proofs.Math.Seq.{take-append-add, take-append_seam, drop-append_seam}
use Rattle.std.proofs.KnownBytes.{Appends-trans}
use Rattle.std.specs.Io.KnownBytes.{Appends, Consumes, IsAtEnd}
use Rattle.mib_upload.specs.Upload.{start}
use Rattle.text_writing.specs.Written.{AppendsPart}
use Rattle.script_replay.specs.Answers.{answers, answers_from, before_bad, script_of}
use Rattle.script_replay.specs.Replay.{ended_script, IsAnswered, Replays, StopsAtLine, StopsAtRead}
use Rattle.script_replay.specs.declared.fault.ReplayFault.TheVariants.{Write}

-- ---- parts of the answers

pub part_behind : (a b c : Option (List ℕ)) (bs more : List ℕ) → Appends a b bs → AppendsPart b c more → AppendsPart a c (bs ++ more)
part_behind a b c bs more first part =
    (length bs + part.0, simp length-append (omega (arith, part.1)), rw (take-append-add bs more part.0) (Appends-trans a b c bs (take part.0 more) first part.2))

-- ---- the known text

pub ends_ok : (known left before after : Option (List ℕ)) (read : List ℕ) → Consumes known left read → IsAtEnd left → before_bad (script_of read) ≡ None → Appends before after (answers read)
    → IfSome known (λ text. IsAnswered text left before after)
ends_ok None left before after read took end good written = tt
ends_ok (Some text) None before after read took end good written = absurd took
ends_ok (Some text) (Some rest) before after read took end good written =
    let whole : text ≡ read = took ∙ ap (λ r. read ++ r) end ∙ append-nil read in
    record { at_end = end; none_bad = rw whole good; written = rw whole written }

pub ends_bad : (known left before after : Option (List ℕ)) (read done : List ℕ) (n : ℕ) → Consumes known left read
    → ((more : List ℕ) → record { first : before_bad (script_of (read ++ more)) ≡ Some n; written : answers (read ++ more) ≡ done }) → Appends before after done
    → IfSome known (λ text. StopsAtLine (suc n) text before after)
ends_bad None left before after read done n took bad written = tt
ends_bad (Some text) None before after read done n took bad written = absurd took
ends_bad (Some text) (Some rest) before after read done n took bad written =
    let there = bad rest in
    record { first = rw (took, there.first) refl; written = rw (took, there.written) written }

pub ends_read : (known left before after : Option (List ℕ)) (read : List ℕ) → Consumes known left read → before_bad (ended_script read) ≡ None → Appends before after (answers_from start (ended_script read))
    → IfSome known (λ text. StopsAtRead (length read) text left before after)
ends_read None left before after read took good written = tt
ends_read (Some text) None before after read took good written = absurd took
ends_read (Some text) (Some rest) before after read took good written =
    let front : take (length read) text ≡ read = rw took (take-append_seam read rest) in
    record {
      within = rw (took, length-append read rest) (omega arith);
      read = ap Some (rw took (sym (drop-append_seam read rest)));
      none_bad = rw front good;
      written = rw front written;
    }

pub ends_write : (known left before after : Option (List ℕ)) (read : List ℕ) → Consumes known left read → AppendsPart before after (answers_from start (ended_script read))
    → IfSome known (λ text. Replays text (Err Write) left before after)
ends_write None left before after read took written = tt
ends_write (Some text) None before after read took written = absurd took
ends_write (Some text) (Some rest) before after read took written =
    let front : take (length read) text ≡ read = rw took (take-append_seam read rest) in
    inl (
      length read,
      record {
        within = rw (took, length-append read rest) (omega arith);
        read = ap Some (rw took (sym (drop-append_seam read rest)));
        written = rw front written;
      },
    )

pub ends_last_write : (known left before after : Option (List ℕ)) (read : List ℕ) → Consumes known left read → IsAtEnd left → AppendsPart before after (answers read)
    → IfSome known (λ text. Replays text (Err Write) left before after)
ends_last_write None left before after read took end written = tt
ends_last_write (Some text) None before after read took end written = absurd took
ends_last_write (Some text) (Some rest) before after read took end written =
    let whole : text ≡ read = took ∙ ap (λ r. read ++ r) end ∙ append-nil read in
    inr (record { at_end = end; written = rw whole written })
