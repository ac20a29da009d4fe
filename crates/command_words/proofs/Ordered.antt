-- Words whose first line stands behind the last ask for nothing.
use Rattle.std.proofs.Common.{◌≡◌, ℕ, Option, codes, subst}
use Rattle.clap.specs.Words.{rows_of}
use Rattle.clap.specs.declared.parser.matches.Found.{Found}
use Rattle.command_words.specs.Asked.{AreInOrder, IsExpect, IsOptionalNumber}
use Rattle.command_words.specs.Range.{IsLine, IsShort}
use Rattle.command_words.specs.declared.expecting.ExpectWords.{ExpectWords}
use Rattle.command_words.proofs.Given.{option_same}

module _ (f : Found) where
  pub order_unread : (from until : Option ℕ)
      → IsOptionalNumber (codes "from") (rows_of f) from → IsOptionalNumber (codes "until") (rows_of f) until → (AreInOrder until from → ⊥)
      → (words : ExpectWords) → IsExpect (rows_of f) words → IsLine words.from → IsShort words.least → IsLine words.trace.until → ⊥
  order_unread from until read_from read_until none words is line least last =
      let same_from = option_same (codes "from") (rows_of f) words.from from is.from read_from in
      let same_until = option_same (codes "until") (rows_of f) words.trace.until until is.trace.until read_until in
      let with_from = subst (λ (n : Option ℕ). AreInOrder words.trace.until n) same_from is.order in
      none (subst (λ (n : Option ℕ). AreInOrder n from) same_until with_from)
