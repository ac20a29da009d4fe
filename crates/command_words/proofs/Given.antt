-- What the values of options are, and that words which are not read ask for nothing in its range.
use Rattle.std.proofs.Common.{◌≡◌, ◌∙◌, ◌<◌, ◌^◌, ◌≤◌, ℕ, Bool, List, Option, Some, None, Result, refl, sym, subst, ap, arith, codes}
use Rattle.std.specs.Prelude.{IfNone, IfSome, true, false, is_some, option_and_then, option_map, slice_get, unwrap_or}
use Rattle.std.specs.Str.Parse.{ParsesUnsigned, ExplainsUnsignedError, HasUnsignedDigitsIfOk, digits_value, without_leading_plus}
use Rattle.std.specs.declared.num.ParseIntError.{ParseIntError}
use Rattle.clap.specs.Walk.{row_text}
use Rattle.clap.specs.Words.{ReadsOne, Row, Text, first_of, first_value, one_text, rows_of}
use Rattle.clap.specs.declared.parser.matches.Found.{Found}
use Rattle.clap.proofs.WalkLemmas.{first_value-rows, one_text-rows}
use Rattle.command_words.specs.Asked.{IsExplain, IsForward, IsFrame, IsLate, IsNumber, IsNumberOr, IsOptionalNumber, IsRecord, IsRules, IsRun, IsTrace}
use Rattle.command_words.specs.Range.{AreInRange, IsFrameInRange, IsShort, IsLine}
use Rattle.run_settings.specs.Settings.{AreInLimits, default_batch, default_lanes}
use Rattle.command_words.specs.declared.words.RunWords.{RunWords}
use Rattle.command_words.specs.declared.words.RulesWords.{RulesWords}
use Rattle.command_words.specs.declared.words.ExplainWords.{ExplainWords}
use Rattle.command_words.specs.declared.words.FrameWords.{FrameWords}
use Rattle.command_words.specs.declared.words.FrameWords.TheVariants.{Bytes, Captured}
use Rattle.command_words.specs.declared.words.TraceWords.{TraceWords}
use Rattle.command_words.specs.declared.words.ForwardWords.{ForwardWords}
use Rattle.command_words.specs.declared.words.RecordWords.{RecordWords}

-- how a whole number of so many bits is read
abbrev pub Reads : ℕ → Text → Result ℕ ParseIntError → Type 0
Reads bits text r = ParsesUnsigned bits 10 text r × ExplainsUnsignedError 10 text r × HasUnsignedDigitsIfOk text r

-- a number that was read is that of the option's digits
pub number_read : (bits : ℕ) (f : Found) (name : Text) (n : ℕ)
    → (one_text f name ≡ None → Some n ≡ None) → ((text : Text) → one_text f name ≡ Some text → ReadsOne (Reads bits) text (Some n))
    → IsNumber name (rows_of f) n
number_read bits f name n none value = go (one_text f name) refl
  where
    go : (o : Option Text) → one_text f name ≡ o → IsNumber name (rows_of f) n
    go None e = let bad : Some n ≡ None = none e in absurd (cc)
    go (Some text) e =
        let parsed = (value text e).0 in
        record { text = text; value = sym (one_text-rows f name) ∙ e; numeral = parsed.0.0; number = parsed.1 }

pub if_none : {A : Type 0} {X : Type 0} (o : Option A) → X → IfNone o X
if_none None x = x
if_none (Some a) x = tt

-- nothing is read where nothing is there, and something where something is
pub nothing_read : {A B : Type 0} (f : A → B) (o : Option A) → is_some o ≡ false → option_map f o ≡ None
nothing_read f None is = refl
nothing_read f (Some a) is = absurd (cc)

pub something_read : {A B : Type 0} (f : A → B) (o : Option A) → is_some o ≡ true → (b : B) × (option_map f o ≡ Some b)
something_read f None is = absurd (cc)
something_read f (Some a) is = (f a, refl)

-- a number that was not read is none of so many bits
pub number_unread : (bits : ℕ) (f : Found) (name : Text) (n : ℕ) → ((text : Text) → one_text f name ≡ Some text → ReadsOne (Reads bits) text None)
    → IsNumber name (rows_of f) n → n < 2 ^ bits → ⊥
number_unread bits f name n value is small =
    let refused = value is.text (one_text-rows f name ∙ is.value) in
    refused.1.0 (is.numeral, subst (λ m. m < 2 ^ bits) is.number small)

-- an option has one number
pub number_same : (name : Text) (rows : List Row) (n m : ℕ) → IsNumber name rows n → IsNumber name rows m → n ≡ m
number_same name rows n m a b =
    let same : a.text ≡ b.text = cc in
    a.number ∙ subst (λ text. digits_value 10 (without_leading_plus a.text) ≡ digits_value 10 (without_leading_plus text)) same refl ∙ sym b.number

-- no value stands first where there is none
first_there : (found : Option Row) (text : Text) → option_and_then (λ r. slice_get r.values 0) found ≡ None → option_and_then row_text found ≡ Some text → ⊥
first_there None text none some = absurd (cc)
first_there (Some row) text none some = let bad : None ≡ Some text = rw none at some in absurd (cc)

-- so an option that may be left out has one number, or none
pub option_same : (name : Text) (rows : List Row) (n m : Option ℕ) → IsOptionalNumber name rows n → IsOptionalNumber name rows m → n ≡ m
option_same name rows None None a b = refl
option_same name rows (Some n) (Some m) a b = ap Some (number_same name rows n m a b)
option_same name rows None (Some m) a b = absurd (first_there _ b.text a b.value)
option_same name rows (Some n) None a b = absurd (first_there _ a.text b a.value)

number_or_same : (default : ℕ) (name : Text) (rows : List Row) (n m : ℕ) → IsNumberOr default name rows n → IsNumberOr default name rows m → n ≡ m
number_or_same default name rows n m a b =
    a.number ∙ ap (λ (given : Option ℕ). unwrap_or given default) (option_same name rows a.given b.given a.value b.value) ∙ sym b.number

-- a number within bounds that is given is within them
given_within : (given : Option ℕ) (default n most : ℕ) → n ≡ unwrap_or given default → n ≤ most → IfSome given (λ m. m ≤ most)
given_within None default n most is within = tt
given_within (Some m) default n most is within = omega (arith, is, within)

-- words that were not read ask for no run in its range
abbrev pub AsksForNoRun : List Row → Type 0
AsksForNoRun rows = (words : RunWords) → IsRun rows words → AreInRange words.settings → IsLine words.until → ⊥

-- a required option that was not read has no value
missing : (f : Found) (name : Text) (value : Text) → first_value f name ≡ None → first_of name (rows_of f) ≡ Some value → ⊥
missing f name value none is = let bad : None ≡ Some value = sym none ∙ first_value-rows f name ∙ is in absurd (cc)

module _ (f : Found) where
  pub port_unread : ((text : Text) → one_text f (codes "port") ≡ Some text → ReadsOne (Reads 16) text None) → AsksForNoRun (rows_of f)
  port_unread value words is fits line = number_unread 16 f (codes "port") words.settings.port value is.port (omega (arith, fits.port))

  pub lanes_unread : ((n : Option ℕ) → IsOptionalNumber (codes "lanes") (rows_of f) n → IsShort n → ⊥) → AsksForNoRun (rows_of f)
  lanes_unread none words is fits line =
      none is.lanes.given is.lanes.value (given_within is.lanes.given default_lanes words.settings.lanes 65535 is.lanes.number (omega (arith, fits.limits.1)))

  pub batch_unread : ((n : Option ℕ) → IsOptionalNumber (codes "batch") (rows_of f) n → IsLine n → ⊥) → AsksForNoRun (rows_of f)
  batch_unread none words is fits line =
      none is.batch.given is.batch.value (given_within is.batch.given default_batch words.settings.batch 4294967295 is.batch.number (omega (arith, fits.limits.3)))

  pub until_unread : ((n : Option ℕ) → IsOptionalNumber (codes "until") (rows_of f) n → IsLine n → ⊥) → AsksForNoRun (rows_of f)
  until_unread none words is fits line = none words.until is.until line

  pub trace_missing : first_value f (codes "trace") ≡ None → AsksForNoRun (rows_of f)
  trace_missing none words is fits line = missing f (codes "trace") words.trace.now none is.trace

  pub frames_missing : first_value f (codes "frames") ≡ None → AsksForNoRun (rows_of f)
  frames_missing none words is fits line = missing f (codes "frames") words.frames.now none is.frames

  -- lanes and a batch that were read, and that no run can have
  pub limits_apart : (lanes batch : ℕ) → IsNumberOr default_lanes (codes "lanes") (rows_of f) lanes → IsNumberOr default_batch (codes "batch") (rows_of f) batch
      → (AreInLimits lanes batch → ⊥) → AsksForNoRun (rows_of f)
  limits_apart lanes batch read_lanes read_batch out words is fits line =
      let few = number_or_same default_lanes (codes "lanes") (rows_of f) words.settings.lanes lanes is.lanes read_lanes in
      let short = number_or_same default_batch (codes "batch") (rows_of f) words.settings.batch batch is.batch read_batch in
      out (subst (λ n. AreInLimits n batch) few (subst (λ n. AreInLimits words.settings.lanes n) short fits.limits))

  pub rules_unread : ((text : Text) → one_text f (codes "port") ≡ Some text → ReadsOne (Reads 16) text None)
      → (words : RulesWords) → IsRules (rows_of f) words → words.port ≤ 65535 → IsLine words.traces.until → ⊥
  rules_unread value words is fits line = number_unread 16 f (codes "port") words.port value is.port (omega (arith, fits))

  pub explain_unread : ((text : Text) → one_text f (codes "port") ≡ Some text → ReadsOne (Reads 16) text None)
      → (words : ExplainWords) → IsExplain (rows_of f) words → words.port ≤ 65535 → IsFrameInRange words.frame → IsLine words.trace.until → ⊥
  explain_unread value words is fits frame line = number_unread 16 f (codes "port") words.port value is.port (omega (arith, fits))

  -- a frame given by bytes and by a capture, or by neither
  pub captured_unread : ((text : Text) → one_text f (codes "frame") ≡ Some text → ReadsOne (Reads 32) text None)
      → first_value f (codes "bytes") ≡ None → (words : FrameWords) → IsFrame (rows_of f) words → IsFrameInRange words → ⊥
  captured_unread value none (Bytes digits) is fits = missing f (codes "bytes") digits.now none is.0
  captured_unread value none (Captured file number) is fits = number_unread 32 f (codes "frame") number value is.2 (omega (arith, fits))

  pub captured_missing : first_value f (codes "frames") ≡ None → first_value f (codes "bytes") ≡ None
      → (words : FrameWords) → IsFrame (rows_of f) words → IsFrameInRange words → ⊥
  captured_missing none no_bytes (Bytes digits) is fits = missing f (codes "bytes") digits.now no_bytes is.0
  captured_missing none no_bytes (Captured file number) is fits = missing f (codes "frames") file.now none is.1

  -- a value that is there isn't left out
  given : (name : Text) (value : Text) → first_value f name ≡ Some value → first_of name (rows_of f) ≡ None → ⊥
  given name value some is = let bad : None ≡ Some value = sym is ∙ sym (first_value-rows f name) ∙ some in absurd (cc)

  pub too_many : (digits more : Text) → first_value f (codes "bytes") ≡ Some digits
      → first_value f (codes "frames") ≡ Some more → (words : FrameWords) → IsFrame (rows_of f) words → IsFrameInRange words → ⊥
  too_many digits more some others (Bytes other) is fits = given (codes "frames") more others is.1
  too_many digits more some others (Captured file number) is fits = given (codes "bytes") digits some is.0

  pub too_many_numbers : (digits more : Text) → first_value f (codes "bytes") ≡ Some digits
      → first_value f (codes "frame") ≡ Some more → (words : FrameWords) → IsFrame (rows_of f) words → IsFrameInRange words → ⊥
  too_many_numbers digits more some others (Bytes other) is fits = given (codes "frame") more others is.2
  too_many_numbers digits more some others (Captured file number) is fits = given (codes "bytes") digits some is.0

  -- the number of an option that may be left out
  pub optional_unread : (name : Text) (text : Text) → first_value f name ≡ Some text
      → ((text : Text) → one_text f name ≡ Some text → ReadsOne (Reads 32) text None)
      → (n : Option ℕ) → IsOptionalNumber name (rows_of f) n → IsLine n → ⊥
  optional_unread name text some value None is fits = given name text some is
  optional_unread name text some value (Some n) is fits = number_unread 32 f name n value is (omega (arith, fits))

  -- likewise one of 16 bits
  pub short_unread : (name : Text) (text : Text) → first_value f name ≡ Some text
      → ((text : Text) → one_text f name ≡ Some text → ReadsOne (Reads 16) text None)
      → (n : Option ℕ) → IsOptionalNumber name (rows_of f) n → IsShort n → ⊥
  short_unread name text some value None is fits = given name text some is
  short_unread name text some value (Some n) is fits = number_unread 16 f name n value is (omega (arith, fits))

  -- frames that are said to be on their way, and no time after which one is lost
  pub late_unread : (lost : Option ℕ) → IsOptionalNumber (codes "lost") (rows_of f) lost → ((late : Bool) → IsLate (rows_of f) lost late → ⊥)
      → (words : RecordWords) → IsRecord (rows_of f) words → IsLine words.wait → IsLine words.lost → ⊥
  late_unread lost read none words is wait line =
      none words.late
      (subst (λ (n : Option ℕ). IsLate (rows_of f) n words.late) (option_same (codes "lost") (rows_of f) words.lost lost is.lost read) is.late)

  pub trace_file_missing : first_value f (codes "trace") ≡ None → (words : TraceWords) → IsTrace (rows_of f) words → IsLine words.until → ⊥
  trace_file_missing none words is fits = missing f (codes "trace") words.file.now none is.file

  pub forward_missing : first_value f (codes "frames") ≡ None
      → (words : ForwardWords) → IsForward (rows_of f) words → words.port ≤ 65535 → IsLine words.trace.until → ⊥
  forward_missing none words is fits line = missing f (codes "frames") words.frames.now none is.frames

  pub forward_unread : ((text : Text) → one_text f (codes "port") ≡ Some text → ReadsOne (Reads 16) text None)
      → (words : ForwardWords) → IsForward (rows_of f) words → words.port ≤ 65535 → IsLine words.trace.until → ⊥
  forward_unread value words is fits line = number_unread 16 f (codes "port") words.port value is.port (omega (arith, fits))
