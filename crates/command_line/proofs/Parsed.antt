-- What clap parses of words is what the program's grammar has for them.
use Rattle.std.proofs.Common.{◌≡◌, List, refl, subst, true}
use Rattle.clap.specs.Words.{App, HasMatchesOf, Text, app_of, is_simple, subcommand_of, subcommand_rows_of}
use Rattle.clap.specs.declared.builder.command.Command.{Command}
use Rattle.clap.specs.declared.parser.matches.ArgMatches.{ArgMatches}
use Rattle.command_line.specs.Grammar.{onuctl}

simple : is_simple onuctl ≡ true
simple = refl

pub rows_read : (command : Command) (words : List Text) (m : ArgMatches) → app_of command ≡ onuctl → HasMatchesOf (app_of command) words m
    → subcommand_rows_of m ≡ subcommand_of onuctl words
rows_read command words m is has = let parsed : HasMatchesOf onuctl words m = subst (λ (a : App). HasMatchesOf a words m) is has in (parsed simple).1
