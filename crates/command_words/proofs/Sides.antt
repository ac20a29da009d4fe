-- Words that name no two configurations, or a change that begins behind its end, ask for nothing.
use Rattle.std.proofs.Common.{◌≡◌, ◌∙◌, ◌≤◌, ℕ, Option, Some, None, sym, subst, arith, codes}
use Rattle.std.specs.Prelude.{option_map}
use Rattle.std.specs.Borrow.{Bor}
use Rattle.clap.specs.Words.{ReadsOne, Text, first_of, one_text, rows_of}
use Rattle.clap.specs.declared.parser.matches.Found.{Found}
use Rattle.command_words.specs.Asked.{AreSides, IsDiff, IsHitless, IsNotBehind, IsNumber, IsOptionalNumber}
use Rattle.command_words.specs.Range.{IsLine, IsShort}
use Rattle.command_words.specs.declared.words.DiffWords.{DiffWords}
use Rattle.command_words.specs.declared.words.HitlessWords.{HitlessWords}
use Rattle.command_words.proofs.Given.{Reads, number_same, number_unread, option_same}

-- whether there is a trace for the one after decides, and not its name
sides_same : (one other : Option (Bor Text)) → option_map (λ (name : Bor Text). name.now) one ≡ option_map (λ (name : Bor Text). name.now) other
    → (from until : Option ℕ) → AreSides one from until → AreSides other from until
sides_same None None same from until are = are
sides_same (Some one) (Some other) same from until are = tt
sides_same None (Some other) same from until are = absurd (cc)
sides_same (Some one) None same from until are = absurd (cc)

module _ (f : Found) where
  -- what is read names no two configurations, so nothing that is asked does
  pub sides_apart : (to asked : Option (Bor Text)) (from wanted until last : Option ℕ)
      → first_of (codes "to") (rows_of f) ≡ option_map (λ (name : Bor Text). name.now) to
      → IsOptionalNumber (codes "from") (rows_of f) from → IsOptionalNumber (codes "until") (rows_of f) until → (AreSides to from until → ⊥)
      → first_of (codes "to") (rows_of f) ≡ option_map (λ (name : Bor Text). name.now) asked
      → IsOptionalNumber (codes "from") (rows_of f) wanted → IsOptionalNumber (codes "until") (rows_of f) last → AreSides asked wanted last → ⊥
  sides_apart to asked from wanted until last read_to read_from read_until none asked_to asked_from asked_until are =
      let same_to : option_map (λ (name : Bor Text). name.now) asked ≡ option_map (λ (name : Bor Text). name.now) to = sym asked_to ∙ read_to in
      let same_from = option_same (codes "from") (rows_of f) wanted from asked_from read_from in
      let same_until = option_same (codes "until") (rows_of f) last until asked_until read_until in
      let with_to = sides_same asked to same_to wanted last are in
      let with_from = subst (λ (n : Option ℕ). AreSides to n last) same_from with_to in
      none (subst (λ (n : Option ℕ). AreSides to from n) same_until with_from)

  pub sides_unread : (to : Option (Bor Text)) (from until : Option ℕ)
      → first_of (codes "to") (rows_of f) ≡ option_map (λ (name : Bor Text). name.now) to
      → IsOptionalNumber (codes "from") (rows_of f) from → IsOptionalNumber (codes "until") (rows_of f) until → (AreSides to from until → ⊥)
      → (words : DiffWords) → IsDiff (rows_of f) words → IsLine words.from → IsShort words.port → IsShort words.least → IsLine words.trace.until → ⊥
  sides_unread to from until read_to read_from read_until none words is line port least last =
      sides_apart to words.to from words.from until words.trace.until read_to read_from read_until none is.to is.from is.trace.until is.sides

  pub behind_unread : (from : ℕ) (until : Option ℕ) → IsNumber (codes "from") (rows_of f) from → IsOptionalNumber (codes "until") (rows_of f) until
      → (IsNotBehind until from → ⊥)
      → (words : HitlessWords) → IsHitless (rows_of f) words → words.from ≤ 4294967295
      → IsShort words.port → IsShort words.least → IsLine words.trace.until → ⊥
  behind_unread from until read_from read_until none words is fits port least last =
      let same_from = number_same (codes "from") (rows_of f) words.from from is.from read_from in
      let same_until = option_same (codes "until") (rows_of f) words.trace.until until is.trace.until read_until in
      let with_until = subst (λ (n : Option ℕ). IsNotBehind n words.from) same_until is.order in
      none (subst (λ (n : ℕ). IsNotBehind until n) same_from with_until)

  pub from_unread : ((text : Text) → one_text f (codes "from") ≡ Some text → ReadsOne (Reads 32) text None)
      → (words : HitlessWords) → IsHitless (rows_of f) words → words.from ≤ 4294967295
      → IsShort words.port → IsShort words.least → IsLine words.trace.until → ⊥
  from_unread value words is fits port least last = number_unread 32 f (codes "from") words.from value is.from (omega (arith, fits))
