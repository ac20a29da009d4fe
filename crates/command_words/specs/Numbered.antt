-- A number and a file in one text.
use Rattle.std.specs.Prelude.{◌≡◌, ◌≢◌, ◌<◌, ◌≤◌, ◌==◌, ℕ, Bool, [], codes, length}
use Rattle.std.specs.Borrow.{Bor}
use Rattle.std.specs.List.{after_first, before_first, position_or_len}
use Rattle.std.specs.Str.Parse.{IsNumeral, digits_value, without_leading_plus}
use Rattle.clap.specs.Words.{Text}
use Rattle.command_words.specs.declared.numbered.LeftBy.{LeftBy}
use Rattle.command_words.specs.declared.numbered.LeftBy.TheVariants.{Gem, Any, Interface}
use Rattle.command_words.specs.declared.numbered.LeftFile.{LeftFile}
use Rattle.command_words.specs.declared.numbered.NumberedFile.{NumberedFile}

-- the equals sign
abbrev pub is_mark : ℕ → Bool
is_mark c = c == 61

-- the text has an equals sign: before the first stands a number in decimal digits, and behind it the name of a file
pub record IsNumberedFile (text : Text) (words : NumberedFile) : Type 0 where
  pub mark : position_or_len is_mark text < length text
  pub numeral : IsNumeral 10 (without_leading_plus (before_first is_mark text))
  pub number : words.number ≡ digits_value 10 (without_leading_plus (before_first is_mark text))
  pub file : words.file.now ≡ after_first is_mark text
  pub some : words.file.now ≢ []

-- the same of a GEM port; or `any` stands before the equals sign; or there is none, and the text is the name of the file
abbrev pub IsLeftBy : LeftBy → Text → Bor Text → Type 0
IsLeftBy (Gem n) text file = IsNumberedFile text (record { number = n; file = file })
IsLeftBy Any text file =
    (position_or_len is_mark text < length text) × (before_first is_mark text ≡ codes "any") × (file.now ≡ after_first is_mark text) × (file.now ≢ [])
IsLeftBy Interface text file = (position_or_len is_mark text ≡ length text) × (file.now ≡ text) × (file.now ≢ [])

-- a text names a capture of frames that left, and how their GEM ports are known
abbrev pub IsLeftFile : Text → LeftFile → Type 0
IsLeftFile text words = IsLeftBy words.by text words.file

-- the number of a GEM port is one of 16 bits
abbrev pub IsLeftByInRange : LeftBy → Type 0
IsLeftByInRange (Gem n) = n ≤ 65535
IsLeftByInRange Any = Unit {0}
IsLeftByInRange Interface = Unit {0}
