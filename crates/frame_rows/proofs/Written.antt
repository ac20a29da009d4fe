-- The tags that the frames of a row leave with.
use Rattle.std.proofs.Common.{◌≡◌, ◌<◌, ◌≤◌, ℕ, append_assoc, zero, suc, ◌+◌, ◌^◌, true, List, [], ◌∷◌, ◌++◌, Option, Some, None, arith, refl, ap, sym, length, length-append, length-drop, drop, map, min, take, nat_lt, get_or, subst, ◌∙◌}
use Rattle.std.specs.Prelude.{All, IsTrue, replicate}
use Rattle.std.specs.List.{list_all}
use Rattle.std.proofs.lemmas.Bool.{and_parts, ltb-true}
use Rattle.std.proofs.lemmas.List.{append-nil, length-map, length-replicate, length-take, length-take-le, map_more}
use Rattle.std.proofs.lemmas.List.Elements.{All-cons, All-nil, All-replicate}
use Rattle.tag_view.specs.Tag.{IsInRange, TagFields, missing_tag}
use Rattle.tag_view.specs.Word.{tag_of, word_of}
use Rattle.vlan_rule.specs.declared.settings.TableSettings.{TableSettings}
use Rattle.vlan_rule.specs.declared.treatment.AddedTag.{AddedTag}
use Rattle.vlan_rule.specs.declared.treatment.Retag.{Retag}
use Rattle.vlan_rule.specs.declared.treatment.Treatment.{Treatment}
use Rattle.vlan_rule.specs.declared.treatment.Treatment.TheVariants as treatment
use Rattle.vlan_rule.specs.Meaning.{treatment_fits}
use Rattle.treatment.specs.Treatment.{addition_from, additions_from, dscp_priority, inner_of, left_of, outer_of, treated_by}
use Rattle.treatment.specs.Compiled.{AreSources, Compiled, Treats}
use Rattle.frame_rows.specs.declared.field.Field.TheVariants.{Length}
use Rattle.frame_rows.specs.declared.field.Values.{Values}
use Rattle.frame_rows.specs.declared.row.Row.{Row}
use Rattle.frame_rows.specs.Field.{fields}
use Rattle.frame_rows.specs.Fits.{ask_fits, ends_fit, length_fits, marking_fits, row_fits, tags_fit}
use Rattle.frame_rows.specs.Row.{ask_at}
use Rattle.frame_rows.specs.Sight.{first_slot, leaving, second_slot, slots, written}
use Rattle.frame_rows.specs.Source.{dscp_behind}

-- ---- a row that fits

pub record IsFitting (row : Row) : Type 0 where
  pub few : row.tags ≤ 2
  pub long : length_fits row.ends row.tags (ask_at row Length) ≡ true
  pub retag : treatment_fits (treatment.Retag row.retag) ≡ true

pub fitting : (input : ℕ) (row : Row) → IsTrue (row_fits input row) → IsFitting row
fitting input row h =
    let all = and_parts (list_all (λ field. ask_fits input field (ask_at row field)) fields) _ h in
    let behind_ends = and_parts (ends_fit row.ends) _ all.1 in
    let behind_marking = and_parts (marking_fits row.marking) _ behind_ends.1 in
    let last = and_parts (tags_fit input row) (treatment_fits (treatment.Retag row.retag)) behind_marking.1 in
    let tags = and_parts (nat_lt row.tags 3) _ last.0 in
    record { few = below (ltb-true row.tags 3 tags.0); long = (and_parts _ _ (and_parts _ _ tags.1).1).1; retag = last.1 }
  where
    below : row.tags < 3 → row.tags ≤ 2
    below h = omega arith

-- ---- how many tags

pub few_slots : (count : ℕ) (values : Values) → count ≤ 2 → length (slots count values) ≡ count
few_slots count values two = length-take-le count (first_slot values ∷ second_slot values ∷ []) two

one_added : (added : Option AddedTag) (settings : TableSettings) (tags : List TagFields) (dscp : Option ℕ)
    → length (addition_from added settings tags dscp) ≤ 1
one_added None settings tags dscp = omega arith
one_added (Some added) settings tags dscp = omega arith

pub few_written : (settings : TableSettings) (row : Row) (values : Values) → length (written settings row values) ≤ 2 + row.tags
few_written settings row values =
    let tags = slots row.tags values in
    let dscp = dscp_behind row.tags values in
    let outer = one_added row.retag.outer settings tags dscp in
    let inner = one_added row.retag.inner settings tags dscp in
    let read : length tags ≤ row.tags = omega (arith, length-take row.tags (first_slot values ∷ second_slot values ∷ [])) in
    let left : length (left_of row.retag.remove tags) ≤ row.tags = omega (arith, length-drop (min row.retag.remove (length tags)) tags) in
    let added = length-append (addition_from row.retag.outer settings tags dscp) (addition_from row.retag.inner settings tags dscp) in
    let all = length-append (additions_from row.retag settings tags dscp) (left_of row.retag.remove tags) in
    omega arith

-- ---- of words

-- the fields of a tag whose word has 32 bits
range_by : (tag : TagFields) → tag.pcp < 2 ^ 3 → tag.vid < 2 ^ 12 → word_of tag < 2 ^ 32 → IsInRange tag
range_by tag pcp vid word = record { tpid = omega arith; pcp = pcp; vid = vid }

ranges : (tags : ℕ) (values : Values) → tags ≤ 2 → word_of (outer_of (slots tags values)) < 2 ^ 32 → word_of (inner_of (slots tags values)) < 2 ^ 32
    → All IsInRange (slots tags values)
ranges zero values two outer inner = All-nil IsInRange
ranges (suc zero) values two outer inner =
    All-cons IsInRange (first_slot values) [] (range_by (first_slot values) (omega arith) (omega arith) outer) (All-nil IsInRange)
ranges (suc (suc zero)) values two outer inner =
    All-cons IsInRange (first_slot values) (second_slot values ∷ []) (range_by (first_slot values) (omega arith) (omega arith) outer)
    (All-cons IsInRange (second_slot values) [] (range_by (second_slot values) (omega arith) (omega arith) inner) (All-nil IsInRange))
ranges (suc (suc (suc tags))) values two outer inner = absurd (omega arith)

-- what words make of a compiled treatment
abbrev pub MakesTreated : Compiled → ℕ → ℕ → ℕ → List ℕ → Type 0
MakesTreated compiled first last priority words =
    (by : Treatment) (settings : TableSettings) (tags : List TagFields) (dscp : Option ℕ) → Treats by settings (length tags) (Some compiled)
    → AreSources compiled settings tags dscp first last priority → Some (map tag_of (take compiled.count words)) ≡ treated_by by settings tags dscp

pub words_written : (settings : TableSettings) (row : Row) (values : Values) (received : ℕ) (compiled : Compiled) (first last priority : ℕ) (words : List ℕ)
    → row.tags ≤ 2 → received ≡ row.tags → Treats (treatment.Retag row.retag) settings received (Some compiled)
    → first ≡ word_of (outer_of (slots row.tags values)) → last ≡ word_of (inner_of (slots row.tags values))
    → priority ≡ dscp_priority settings.dscp_map.0 (dscp_behind row.tags values) → first < 2 ^ 32 → last < 2 ^ 32
    → MakesTreated compiled first last priority words → map tag_of (take compiled.count words) ≡ written settings row values
unfolding treated_by
words_written settings row values received compiled first last priority words two is_received treats is_first is_last is_priority first_fits last_fits made =
    same (map tag_of (take compiled.count words)) (written settings row values)
    (made (treatment.Retag row.retag) settings tags (dscp_behind row.tags values) (subst (λ (n : ℕ). Treats (treatment.Retag row.retag) settings n (Some compiled)) (is_received ∙ sym (few_slots row.tags values two)) treats) sources)
  where
    tags : List TagFields
    tags = slots row.tags values

    same : (a b : List TagFields) → Some a ≡ Some b → a ≡ b
    same a b e = cc

    sources : AreSources compiled settings tags (dscp_behind row.tags values) first last priority
    sources =
        record {
          range = ranges row.tags values two (rw (← is_first) first_fits) (rw (← is_last) last_fits);
          outer = is_first;
          inner = is_last;
          marking = λ asks. is_priority;
        }

-- a list that grows by the tag of the next word
pub more_words : (words : List ℕ) (index : ℕ) (before after : List TagFields) (tag : TagFields) → index < length words
    → before ≡ map tag_of (take index words) → tag ≡ tag_of (get_or words index 0) → after ≡ before ++ tag ∷ [] → after ≡ map tag_of (take (index + 1) words)
more_words words index before after tag within is is_tag grown =
    grown ∙ rw (is, is_tag) (sym (map_more tag_of words index 0 within))

-- there is room for it
pub few_words : (words : List ℕ) (index count : ℕ) (tags : List TagFields) → index < length (take count words) → count ≤ 4
    → tags ≡ map tag_of (take index (take count words)) → length tags < 4
few_words words index count tags within four is =
    let most : length (take count words) ≤ 4 = omega (arith, length-take count words) in
    let same : length tags ≡ length (take index (take count words)) = ap length is ∙ length-map (take index (take count words)) tag_of in
    let short = length-take index (take count words) in
    omega arith

-- a treatment that keeps or adds tags drops no frame
pub no_drop : (retag : Retag) (settings : TableSettings) (received : ℕ) → Treats (treatment.Retag retag) settings received None → ⊥
unfolding treated_by
no_drop retag settings received treats = never (treats (replicate received missing_tag) None (length-replicate received missing_tag) (All-replicate IsInRange received missing_tag missing_fits))
  where
    missing_fits : IsInRange missing_tag
    missing_fits = record { tpid = omega arith; pcp = omega arith; vid = omega arith }

    never : {tags : List TagFields} → None ≡ Some tags → ⊥
    never e = cc

-- ---- the bytes behind them

-- what stands behind the tags that a row reads
pub behind_none : (read count : ℕ) (values : Values) → read ≡ count → count ≤ 2 → drop read (slots count values) ≡ []
behind_none zero zero values same two = refl
behind_none (suc zero) (suc zero) values same two = refl
behind_none (suc (suc zero)) (suc (suc zero)) values same two = refl
behind_none zero (suc count) values same two = absurd (omega arith)
behind_none (suc read) zero values same two = absurd (omega arith)
behind_none (suc zero) (suc (suc count)) values same two = absurd (omega arith)
behind_none (suc (suc read)) (suc zero) values same two = absurd (omega arith)
behind_none (suc (suc (suc read))) (suc (suc count)) values same two = absurd (omega arith)
behind_none (suc (suc zero)) (suc (suc (suc count))) values same two = absurd (omega arith)

pub behind_first : (read count : ℕ) (values : Values) → read ≡ 0 → count ≡ 1 → drop read (slots count values) ≡ first_slot values ∷ []
behind_first read count values p q = rw (p, q) refl

pub behind_second : (read count : ℕ) (values : Values) → read ≡ 1 → count ≡ 2 → drop read (slots count values) ≡ second_slot values ∷ []
behind_second read count values p q = rw (p, q) refl

pub behind_both : (read count : ℕ) (values : Values) → read ≡ 0 → count ≡ 2
    → drop read (slots count values) ≡ first_slot values ∷ second_slot values ∷ []
behind_both read count values p q = rw (p, q) refl

-- what the row writes and nothing more, one slot more, or both
pub left_none : (settings : TableSettings) (count : ℕ) (row : Row) (values : Values) (items : List TagFields) → items ≡ written settings row values
    → row.tags ≡ count → count ≤ 2 → items ≡ leaving settings count row values
left_none settings count row values items is same two =
    is ∙ sym (append-nil (written settings row values))
    ∙ ap (λ (tags : List TagFields). written settings row values ++ tags) (sym (behind_none row.tags count values same two))

pub left_first : (settings : TableSettings) (count : ℕ) (row : Row) (values : Values) (items more : List TagFields) (first : TagFields)
    → items ≡ written settings row values → first ≡ first_slot values → more ≡ items ++ first ∷ [] → row.tags ≡ 0 → count ≡ 1
    → more ≡ leaving settings count row values
left_first settings count row values items more first is is_first grown none one =
    grown ∙ rw (is, is_first) (ap (λ (tags : List TagFields). written settings row values ++ tags) (sym (behind_first row.tags count values none one)))

pub left_second : (settings : TableSettings) (count : ℕ) (row : Row) (values : Values) (items more : List TagFields) (second : TagFields)
    → items ≡ written settings row values → second ≡ second_slot values → more ≡ items ++ second ∷ [] → row.tags ≡ 1 → count ≡ 2
    → more ≡ leaving settings count row values
left_second settings count row values items more second is is_second grown one two =
    grown ∙ rw (is, is_second) (ap (λ (tags : List TagFields). written settings row values ++ tags) (sym (behind_second row.tags count values one two)))

pub left_both : (settings : TableSettings) (count : ℕ) (row : Row) (values : Values) (items more all : List TagFields) (first second : TagFields)
    → items ≡ written settings row values → first ≡ first_slot values → more ≡ items ++ first ∷ [] → second ≡ second_slot values
    → all ≡ more ++ second ∷ [] → row.tags ≡ 0 → count ≡ 2 → all ≡ leaving settings count row values
left_both settings count row values items more all first second is is_first grown is_second grown_twice none two =
    grown_twice
    ∙ rw (grown, is, is_first, is_second) (append_assoc (written settings row values) (first_slot values ∷ []) (second_slot values ∷ []))
    ∙ ap (λ (tags : List TagFields). written settings row values ++ tags) (sym (behind_both row.tags count values none two))
