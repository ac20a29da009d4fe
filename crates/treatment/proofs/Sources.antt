-- The words of a compiled treatment are those of the tags that it gives.
use Rattle.std.proofs.Common.{◌≡◌, ◌≤◌, ℕ, ◌*◌, ◌^◌, Bool, true, false, ◌||◌, List, [], ◌∷◌, Option, Some, length, map, take, arith, refl, ap, ◌∙◌}
use Rattle.std.specs.Prelude.{nat_lt}
use Rattle.std.specs.List.{list_any}
use Rattle.std.specs.Int.Bits.{and_zero_r}
use Rattle.std.proofs.lemmas.List.{take-map}
use Rattle.std.proofs.lemmas.Bool.{ltb-false}
use Rattle.tag_view.specs.Tag.{TagFields}
use Rattle.tag_view.specs.Word.{tag_of}
use Rattle.vlan_rule.specs.declared.settings.TableSettings.{TableSettings}
use Rattle.vlan_rule.specs.declared.treatment.Treatment.{Treatment}
use Rattle.vlan_rule.specs.Meaning.{treatment_of}
use Rattle.treatment.specs.Treatment.{dscp_priority, treated, treated_by}
use Rattle.treatment.specs.declared.mix.Mix.{Mix}
use Rattle.treatment.specs.Mix.{mixed}
use Rattle.treatment.specs.Compiled.{AreSources, Compiled, Treats, asks_dscp, used, words_by}
use Rattle.treatment.proofs.Tags.{treated_entry}

-- ---- where no mix asks for the DSCP, its priority has no part

pub no_priority : (mix : Mix) (first last marking other : ℕ) → mix.dscp ≡ 0 → mixed mix first last marking ≡ mixed mix first last other
no_priority mix first last marking other none = rw none (simp and_zero_r refl)

takes_none : (n : ℕ) → nat_lt 0 n ≡ false → n ≡ 0
takes_none n h = let none : n ≤ 0 = ltb-false 0 n h in omega arith

neither : (a b : Bool) → (a || b) ≡ false → (a ≡ false) × (b ≡ false)
neither false false h = (refl, refl)
neither false true h = cc
neither true b h = cc

pub no_priorities : (mixes : List Mix) (first last priority other : ℕ) → list_any (λ mix. nat_lt 0 mix.dscp) mixes ≡ false
    → words_by mixes first last priority ≡ words_by mixes first last other
no_priorities [] first last priority other none = refl
no_priorities (mix ∷ rest) first last priority other none =
    let parts = neither (nat_lt 0 mix.dscp) (list_any (λ mix. nat_lt 0 mix.dscp) rest) none in
    rw (no_priority mix first last (priority * 2 ^ 13) (other * 2 ^ 13) (takes_none mix.dscp parts.0), no_priorities rest first last priority other parts.1)
    refl

-- ---- the words that are used

-- the priority may be another where none is asked for
asked : (asks : Bool) (mixes : List Mix) (first last priority dscp : ℕ) → list_any (λ mix. nat_lt 0 mix.dscp) mixes ≡ asks → (asks ≡ true → priority ≡ dscp)
    → words_by mixes first last priority ≡ words_by mixes first last dscp
asked true mixes first last priority dscp is same = ap (λ (p : ℕ). words_by mixes first last p) (same refl)
asked false mixes first last priority dscp is same = no_priorities mixes first last priority dscp is

pub words-treat : (compiled : Compiled) (first last priority : ℕ) (by : Treatment) (settings : TableSettings) (tags : List TagFields) (dscp : Option ℕ)
    → Treats by settings (length tags) (Some compiled) → AreSources compiled settings tags dscp first last priority
    → Some (map tag_of (take compiled.count (words_by compiled.mixes first last priority))) ≡ treated_by by settings tags dscp
words-treat compiled first last priority by settings tags dscp treats sources =
    let q = dscp_priority settings.dscp_map.0 dscp in
    let same : words_by (used compiled) first last priority ≡ words_by (used compiled) first last q =
    asked (asks_dscp compiled) (used compiled) first last priority q refl sources.marking in
    rw (take-map (λ mix. mixed mix first last (priority * 2 ^ 13)) compiled.count compiled.mixes, same, sources.outer, sources.inner) (treats tags dscp refl sources.range)

pub words-treat_entry : (compiled : Compiled) (first last priority : ℕ) (entry : List ℕ) (settings : TableSettings) (tags : List TagFields) (dscp : Option ℕ)
    → Treats (treatment_of entry) settings (length tags) (Some compiled) → AreSources compiled settings tags dscp first last priority
    → Some (map tag_of (take compiled.count (words_by compiled.mixes first last priority))) ≡ treated entry settings tags dscp
words-treat_entry compiled first last priority entry settings tags dscp treats sources =
    words-treat compiled first last priority (treatment_of entry) settings tags dscp treats sources
    ∙ treated_entry entry (treatment_of entry) settings tags dscp refl
