-- What is written part by part.
use Rattle.std.proofs.Common.{◌≡◌, ◌<◌, ◌+◌, ◌++◌, ◌∷◌, [], ℕ, List, Option, length, take, arith, length-append, lit<}
use Rattle.std.proofs.lemmas.List.{take-append-le}
use Rattle.std.proofs.Math.Seq.{take-append-add}
use Rattle.std.proofs.KnownBytes.{Appends-trans}
use Rattle.std.proofs.lemmas.Fmt.{decimal_digit}
use Rattle.std.specs.Io.KnownBytes.{Appends}
use Rattle.std.specs.Prelude.{codes}
use Rattle.capture.specs.Fault.{number_of_fault}
use Rattle.capture.specs.declared.fault.CaptureFault.{CaptureFault}
use Rattle.capture.specs.declared.fault.CaptureFault.TheVariants.{Magic, Header, Link, Torn, TooLong}
use Rattle.run_capture.specs.Report.{place_words, words_of}
use Rattle.run_capture.specs.declared.fault.RunFault.TheVariants.{Capture}
use Rattle.text_writing.specs.Written.{AppendsPart}

-- a part behind bytes
pub part_behind : (a b c : Option (List ℕ)) (bytes more : List ℕ) → Appends a b bytes → AppendsPart b c more → AppendsPart a c (bytes ++ more)
part_behind a b c bytes more first part =
    (length bytes + part.0, simp length-append (omega (arith, part.1)), rw (take-append-add bytes more part.0) (Appends-trans a b c bytes (take part.0 more) first part.2))

-- a part of the first of two
pub part_before : (a b : Option (List ℕ)) (bytes more : List ℕ) → AppendsPart a b bytes → AppendsPart a b (bytes ++ more)
part_before a b bytes more part =
    (part.0, simp length-append (omega (arith, part.1)), rw (take-append-le part.0 bytes more part.1) part.2)

small_fault : (fault : CaptureFault) → number_of_fault fault < 10
small_fault Magic = lit< tt
small_fault Header = lit< tt
small_fault (Link link) = lit< tt
small_fault (Torn n) = lit< tt
small_fault (TooLong n) = lit< tt

-- the number of a capture's fault has one digit
pub capture_part : (a b : Option (List ℕ)) (fault found : CaptureFault) → fault ≡ found
    → AppendsPart a b (codes "capture fault " ++ (48 + number_of_fault found) ∷ (place_words found ++ 10 ∷ [])) → AppendsPart a b (words_of (Capture fault))
capture_part a b fault found is part = rw (is, decimal_digit (number_of_fault found) (small_fault found)) part
