-- Whether a frame meets an expectation, by how its row ends and the bytes with which it leaves.
use Rattle.std.proofs.Common.{◌≡◌, ℕ, ◌==◌, Bool, true, false, not, ◌&&◌, ◌||◌, List, [], ◌∷◌, Option, Some, None, if◌then◌else◌, refl, ap, sym, ◌∙◌}
use Rattle.std.specs.Prelude.{is_none}
use Rattle.std.specs.Str.{bytes_eq}
use Rattle.std.proofs.lemmas.Bool.{true≢false}
use Rattle.std.proofs.lemmas.Slice.Eq.{bytes_eq-Decides}
use Rattle.tag_view.specs.Frame.{Reading, frame_bytes, reading_of}
use Rattle.vlan_rule.specs.declared.settings.TableSettings.{TableSettings}
use Rattle.vlan_rule.specs.declared.treatment.Retag.{Retag}
use Rattle.mib_state.specs.Entities.{Entities}
use Rattle.frame_meaning.specs.declared.verdict.Verdict.{Verdict}
use Rattle.frame_meaning.specs.declared.verdict.Verdict.TheVariants.{Forward, Drop}
use Rattle.frame_meaning.specs.Meaning.{Table, input_tpid_of, meaning, table_at}
use Rattle.frame_rows.specs.declared.class.Ending.{Ending}
use Rattle.frame_rows.specs.declared.class.Ending.TheVariants.{Gem, Dropped}
use Rattle.frame_rows.specs.Rows as rows
use Rattle.frame_rows.specs.Sight.{Leaves, Lost, Sight, endings_apart, sight_by, sight_by_ending, sight_of}
use Rattle.frame_rows.proofs.TagLists.{Tells}
use Rattle.frame_expectation.specs.declared.expectation.Expectation.{Expectation}
use Rattle.frame_expectation.specs.declared.wanted.WantedEnding.{WantedEnding}
use Rattle.frame_expectation.specs.declared.wanted.WantedEnding.TheVariants as ending
use Rattle.frame_expectation.specs.Expectation.{meets, meets_by}
use Rattle.frame_expectation.specs.Wanted.{bytes_wanted, ends_as, leaves_with, settings_by}
use Rattle.expectation_rows.specs.Decision.{any_frame, gem_wanted, is_wanted, marked}

-- ---- by what is seen

abbrev pub has_bytes : Option (List ℕ) → List ℕ → Bool
has_bytes None sent = true
has_bytes (Some wanted) sent = bytes_eq sent wanted

abbrev pub met_by : WantedEnding → Option (List ℕ) → Ending → List ℕ → Bool
met_by by wanted (Gem gem) sent = gem_wanted by gem && has_bytes wanted sent
met_by by wanted (Dropped reason) sent = ends_as by (Drop reason) && is_none wanted

abbrev met_as : WantedEnding → Option (List ℕ) → Sight → Bool
met_as by wanted (Leaves gem sent) = gem_wanted by gem && has_bytes wanted sent
met_as by wanted (Lost reason) = ends_as by (Drop reason) && is_none wanted

-- whatever leaves
gem_is : (by : WantedEnding) (gem : ℕ) (frame : Reading) → ends_as by (Forward gem frame) ≡ gem_wanted by gem
gem_is ending.Any gem frame = refl
gem_is ending.Leave gem frame = refl
gem_is ending.Dropped gem frame = refl
gem_is (ending.DroppedFor reason) gem frame = refl
gem_is (ending.Gem wanted) gem frame = refl

verdict_met : (by : WantedEnding) (wanted : Option (List ℕ)) (verdict : Verdict)
    → (ends_as by verdict && leaves_with wanted verdict) ≡ met_as by wanted (sight_by verdict)
verdict_met by None (Forward gem frame) = ap (λ (b : Bool). b && true) (gem_is by gem frame)
verdict_met by (Some wanted) (Forward gem frame) = ap (λ (b : Bool). b && bytes_eq (frame_bytes frame) wanted) (gem_is by gem frame)
verdict_met by None (Drop reason) = refl
verdict_met by (Some wanted) (Drop reason) = refl

sight_met : (by : WantedEnding) (wanted : Option (List ℕ)) (end : Ending) (sent : List ℕ)
    → met_as by wanted (sight_by_ending end sent) ≡ met_by by wanted end sent
sight_met by wanted (Gem gem) sent = refl
sight_met by wanted (Dropped reason) sent = refl

pub meets_is : (e : Entities) (expected : Expectation) (bytes sent : List ℕ) (end : Ending) (wanted : Option (List ℕ))
    → bytes_wanted expected.treatment (settings_by (table_at e expected.port)) bytes (reading_of (input_tpid_of (table_at e expected.port)) bytes) ≡ wanted
    → sight_of e expected.port bytes ≡ sight_by_ending end sent
    → meets e expected bytes ≡ met_by expected.ending wanted end sent
unfolding meets sight_of
meets_is e expected bytes sent end wanted is seen =
    ap (λ (o : Option (List ℕ)). ends_as expected.ending (meaning e expected.port bytes) && leaves_with o (meaning e expected.port bytes)) is
    ∙ verdict_met expected.ending wanted (meaning e expected.port bytes)
    ∙ ap (met_as expected.ending wanted) seen
    ∙ sight_met expected.ending wanted end sent

-- ---- the settings of a port

pub same_settings : (table : Option Table) → settings_by table ≡ rows.settings_by table
same_settings None = refl
same_settings (Some table) = refl

pub same_input : (table : Option Table) → (rows.settings_by table).input_tpid ≡ input_tpid_of table
unfolding input_tpid_of
same_input None = refl
same_input (Some table) = refl

-- ---- a frame that leaves

pub record IsLeaving (e : Entities) (port gem : ℕ) (bytes sent : List ℕ) : Type 0 where
  pub out : Reading
  pub leaves : meaning e port bytes ≡ Forward gem out
  pub sent_is : frame_bytes out ≡ sent

pub leaving_by : (e : Entities) (port gem : ℕ) (bytes sent : List ℕ) → sight_of e port bytes ≡ Leaves gem sent → IsLeaving e port gem bytes sent
unfolding sight_of
leaving_by e port gem bytes sent seen = by_verdict (meaning e port bytes) refl
  where
    by_verdict : (verdict : Verdict) → meaning e port bytes ≡ verdict → IsLeaving e port gem bytes sent
    by_verdict (Forward number out) is =
        let same : Leaves number (frame_bytes out) ≡ Leaves gem sent = sym (ap sight_by is) ∙ seen in
        record { out = out; leaves = is ∙ ap (λ (n : ℕ). Forward n out) (gems same); sent_is = sents same }
      where
        gems : Leaves number (frame_bytes out) ≡ Leaves gem sent → number ≡ gem
        gems e = cc

        sents : Leaves number (frame_bytes out) ≡ Leaves gem sent → frame_bytes out ≡ sent
        sents e = cc
    by_verdict (Drop reason) is = absurd (never (sym (ap sight_by is) ∙ seen))
      where
        never : Lost reason ≡ Leaves gem sent → ⊥
        never e = cc

-- ---- endings that are told apart

-- a GEM port of its own
pub unlike : (by : WantedEnding) (end : Ending) (apart : Bool) → endings_apart false (Gem 2) (marked by end) apart ≡ true
unlike by (Gem gem) apart = by_wanted (gem_wanted by gem) refl
  where
    by_wanted : (b : Bool) → gem_wanted by gem ≡ b → endings_apart false (Gem 2) (marked by (Gem gem)) apart ≡ true
    by_wanted true is = rw is refl
    by_wanted false is = rw is refl
unlike by (Dropped reason) apart = refl

-- where any bytes are wanted, whichever are written
pub any_apart : (by : WantedEnding) (end : Ending) (apart : Bool) (sent : List ℕ) → met_by by None end sent ≡ false
    → endings_apart false (Gem 0) (marked by end) apart ≡ true
any_apart by (Gem gem) apart sent h = by_wanted (gem_wanted by gem) refl
  where
    by_wanted : (b : Bool) → gem_wanted by gem ≡ b → endings_apart false (Gem 0) (marked by (Gem gem)) apart ≡ true
    by_wanted true is =
        let met : met_by by None (Gem gem) sent ≡ true = rw is refl in
        absurd (true≢false (sym met ∙ h))
    by_wanted false is = rw is refl
any_apart by (Dropped reason) apart sent h = refl

pub wanted_is : (by : WantedEnding) (end : Ending) (sent : List ℕ) → is_wanted by (marked by end) ≡ met_by by None end sent
wanted_is by (Gem gem) sent = by_wanted (gem_wanted by gem) refl
  where
    by_wanted : (b : Bool) → gem_wanted by gem ≡ b → is_wanted by (marked by (Gem gem)) ≡ met_by by None (Gem gem) sent
    by_wanted true is = rw is refl
    by_wanted false is = rw is refl
wanted_is by (Dropped reason) sent = by_wanted (ends_as by (Drop reason)) refl
  where
    by_wanted : (b : Bool) → ends_as by (Drop reason) ≡ b → is_wanted by (Dropped reason) ≡ met_by by None (Dropped reason) sent
    by_wanted true is = rw is refl
    by_wanted false is = rw is refl

and_false : (b : Bool) → (b && false) ≡ false
and_false true = refl
and_false false = refl

-- where none can be written, and where some are compared
pub unwritten_apart : (by : WantedEnding) (end : Ending) (apart : Bool) (sent wanted : List ℕ) → ((gem : ℕ) → end ≡ Gem gem → bytes_eq sent wanted ≡ false)
    → endings_apart false (Gem 2) (marked by end) apart ≡ not (met_by by (Some wanted) end sent)
unwritten_apart by (Gem gem) apart sent wanted h =
    unlike by (Gem gem) apart ∙ sym (ap not (ap (λ (b : Bool). gem_wanted by gem && b) (h gem refl) ∙ and_false (gem_wanted by gem)))
unwritten_apart by (Dropped reason) apart sent wanted h = sym (ap not (and_false (ends_as by (Drop reason))))

pub compared_apart : (by : WantedEnding) (end : Ending) (apart : Bool) (sent wanted : List ℕ) → ((gem : ℕ) → end ≡ Gem gem → apart ≡ not (bytes_eq sent wanted))
    → endings_apart false (Gem 0) (marked by end) apart ≡ not (met_by by (Some wanted) end sent)
compared_apart by (Gem gem) apart sent wanted h = by_wanted (gem_wanted by gem) refl
  where
    by_wanted : (b : Bool) → gem_wanted by gem ≡ b
        → endings_apart false (Gem 0) (marked by (Gem gem)) apart ≡ not (met_by by (Some wanted) (Gem gem) sent)
    by_wanted true is = rw is (h gem refl)
    by_wanted false is = rw is refl
compared_apart by (Dropped reason) apart sent wanted h = sym (ap not (and_false (ends_as by (Drop reason))))

pub tells_not : (apart : Bool) (sent wanted other : List ℕ) → other ≡ wanted → Tells apart (other ≡ sent) → apart ≡ not (bytes_eq sent wanted)
tells_not apart sent wanted other is tells = by_tests apart (bytes_eq sent wanted) refl refl
  where
    by_tests : (a b : Bool) → apart ≡ a → bytes_eq sent wanted ≡ b → apart ≡ not (bytes_eq sent wanted)
    by_tests true true p q =
        absurd (tells.differs p (is ∙ sym ((bytes_eq-Decides sent wanted).0 q)))
    by_tests true false p q = rw (p, q) refl
    by_tests false true p q = rw (p, q) refl
    by_tests false false p q =
        absurd (true≢false (sym ((bytes_eq-Decides sent wanted).1 (sym (tells.same p) ∙ is)) ∙ q))
