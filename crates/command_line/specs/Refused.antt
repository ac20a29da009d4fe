-- Which words are refused.
use Rattle.std.specs.Prelude.{◌≡◌, true, List}
use Rattle.clap.specs.Words.{Text, kind_of, subcommand_of, takes}
use Rattle.clap.specs.declared.error.Error.{Error}
use Rattle.clap.specs.declared.error.kind.ErrorKind.TheVariants.{OutOfMemory}
use Rattle.command_words.specs.Asked.{IsAskedBy}
use Rattle.command_line.specs.Grammar.{onuctl}
use Rattle.command_words.specs.Range.{IsInRange}
use Rattle.command_words.specs.declared.words.Words.{Words}

-- words that clap takes, and that ask for something in its range, are refused only for want of memory
abbrev pub IsRightlyRefused : List Text → Error → Type 0
IsRightlyRefused texts e =
    takes onuctl texts ≡ true → (words : Words) → IsAskedBy (subcommand_of onuctl texts) words → IsInRange words → kind_of e ≡ OutOfMemory
