-- The words for faults that several commands tell alike, each ended by a line feed.
use Rattle.std.specs.Prelude.{ℕ, List, [], ◌∷◌, ◌++◌, codes}
use Rattle.std.specs.Fmt.{decimal}

-- a line of a script is bad
abbrev pub bad_line_words : ℕ → List ℕ
bad_line_words n = codes "line " ++ decimal n ++ codes " is bad" ++ 10 ∷ []

-- a line of a trace is bad
abbrev pub bad_trace_words : ℕ → List ℕ
bad_trace_words n = codes "trace line " ++ decimal n ++ codes " is bad" ++ 10 ∷ []

abbrev pub read_failed_words : List ℕ
read_failed_words = codes "read failed" ++ 10 ∷ []

abbrev pub write_failed_words : List ℕ
write_failed_words = codes "write failed" ++ 10 ∷ []

abbrev pub no_memory_words : List ℕ
no_memory_words = codes "no memory" ++ 10 ∷ []
