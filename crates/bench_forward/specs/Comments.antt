-- The comments of packets: which frame of the capture that is read each is.
use Rattle.std.specs.Prelude.{ℕ, List, ◌++◌, codes}
use Rattle.std.specs.Fmt.{decimal}
use Rattle.frame_meaning.specs.Reason.{number_of_reason}
use Rattle.frame_meaning.specs.declared.reason.Reason.{Reason}

-- that of a frame that leaves, by its number
abbrev pub leaving_comment : ℕ → List ℕ
leaving_comment n = codes "frame " ++ decimal n

-- that of a frame that is dropped, by its number and why
abbrev pub dropped_comment : ℕ → Reason → List ℕ
dropped_comment n reason = codes "frame " ++ decimal n ++ codes ": drop " ++ decimal (number_of_reason reason)
