-- What a table uses for a frame, by the numbers that its entries have.
use Rattle.std.proofs.Common.{◌≡◌, ℕ, ◌+◌, ◌<◌, List, [], ◌∷◌, ◌++◌, length, Option, Some, None, IsSome, Result, Ok, Err, ap, sym, subst, ◌∙◌, inl, inr, arith, slice_index, slice_index_or}
use Rattle.std.proofs.lemmas.Bool.{cases_lt, true≢false}
use Rattle.std.proofs.lemmas.List.{get_or_append_left, get_or_push}
use Rattle.std.specs.Option.{option_and_then}
use Rattle.std.specs.Result.{result_map_both}
use Rattle.tag_view.specs.Frame.{Reading, frame_of, type_at}
use Rattle.tag_view.specs.Tag.{customer_tpid}
use Rattle.tag_view.specs.declared.fault.FrameFault.{FrameFault}
use Rattle.vlan_rule.specs.Choice.{choice, matches}
use Rattle.frame_meaning.specs.Meaning.{Table, input_tpid_of, read_at}
use Rattle.frame_meaning.specs.Reason.{reason_of_fault}
use Rattle.frame_meaning.specs.declared.reason.Reason.{Reason}
use Rattle.frame_rows.specs.Use.{use_by, use_of_number, used_number}
use Rattle.frame_rows.specs.declared.class.Use.TheVariants.{Unread, NoTable, Entry, NoEntry}
use Rattle.explain.specs.Order.{number_of}
use Rattle.explain.proofs.Orders.{number_found}
use Rattle.bench_coverage.specs.Uses.{IsUsesOf}
use Rattle.bench_coverage.specs.declared.uses.EntryUses.{EntryUses}

-- a frame as a port reads it, by the frame that is viewed
abbrev told : Result Reading FrameFault → Result Reading Reason
told viewed = result_map_both (λ frame. frame) reason_of_fault viewed

-- ---- without a table

pub none_unread : (bytes : List ℕ) (fault : FrameFault) → Err fault ≡ frame_of customer_tpid bytes → Unread ≡ use_by None (read_at None bytes)
unfolding input_tpid_of
none_unread bytes fault is = ap (λ (viewed : Result Reading FrameFault). use_by None (told viewed)) is

pub none_read : (bytes : List ℕ) (frame : Reading) → Ok frame ≡ frame_of customer_tpid bytes → NoTable ≡ use_by None (read_at None bytes)
unfolding input_tpid_of
none_read bytes frame is = ap (λ (viewed : Result Reading FrameFault). use_by None (told viewed)) is

-- ---- with one, of which this is kept

module _ (table : Table) (uses : EntryUses) (is : IsUsesOf table uses) (bytes : List ℕ) where
  reads : (viewed : Result Reading FrameFault) → viewed ≡ frame_of uses.input_tpid bytes → told viewed ≡ read_at (Some table) bytes
  unfolding input_tpid_of
  reads viewed same = ap told (same ∙ ap (λ (input : ℕ). frame_of input bytes) is.input_tpid)

  pub unread : (fault : FrameFault) → Err fault ≡ frame_of uses.input_tpid bytes → Unread ≡ use_by (Some table) (read_at (Some table) bytes)
  unread fault same = ap (use_by (Some table)) (reads (Err fault) same)

  -- the choice among its entries
  chosen : (frame : Reading) (place : Option ℕ) → place ≡ choice (matches uses.input_tpid frame.tags (type_at 0 frame.rest)) uses.index
      → choice (matches table.settings.input_tpid frame.tags (type_at 0 frame.rest)) table.entries ≡ place
  chosen frame place same =
      sym (same
      ∙ ap (λ (input : ℕ). choice (matches input frame.tags (type_at 0 frame.rest)) uses.index) is.input_tpid
      ∙ ap (λ (entries : List (List ℕ)). choice (matches table.settings.input_tpid frame.tags (type_at 0 frame.rest)) entries) is.index)

  used : (frame : Reading) → Ok frame ≡ frame_of uses.input_tpid bytes → (number : Option ℕ) → used_number table frame.tags (type_at 0 frame.rest) ≡ number
      → use_of_number number ≡ use_by (Some table) (read_at (Some table) bytes)
  used frame same number numbered = ap use_of_number (sym numbered) ∙ ap (use_by (Some table)) (reads (Ok frame) same)

  pub no_entry : (frame : Reading) → Ok frame ≡ frame_of uses.input_tpid bytes
      → None ≡ choice (matches uses.input_tpid frame.tags (type_at 0 frame.rest)) uses.index → NoEntry ≡ use_by (Some table) (read_at (Some table) bytes)
  no_entry frame same none = used frame same None (ap (option_and_then (number_of table.entries)) (chosen frame None none))

  pub entry : (frame : Reading) → Ok frame ≡ frame_of uses.input_tpid bytes → (place : ℕ) → place < length uses.index
      → Some place ≡ choice (matches uses.input_tpid frame.tags (type_at 0 frame.rest)) uses.index
      → (numbers : List ℕ) → numbers ≡ uses.numbers.items → Entry (slice_index_or numbers place 0) ≡ use_by (Some table) (read_at (Some table) bytes)
  entry frame same place within some numbers kept =
      ap (λ (ns : List ℕ). Entry (slice_index_or ns place 0)) kept
      ∙ used frame same (Some (slice_index uses.numbers.items place))
      (ap (option_and_then (number_of table.entries)) (chosen frame (Some place) some)
      ∙ ap (λ (entries : List (List ℕ)). number_of entries place) (sym is.index)
      ∙ uses.numbered.number place within)

-- ---- the numbers

-- that of one entry more
pub one_more : (entries : List (List ℕ)) (numbers more : List ℕ) (place number : ℕ) → length numbers ≡ place
    → ((p : ℕ) → p < place → number_of entries p ≡ Some (slice_index numbers p)) → number_of entries place ≡ Some number → more ≡ numbers ++ number ∷ []
    → (p : ℕ) → p < place + 1 → number_of entries p ≡ Some (slice_index more p)
one_more entries numbers more place number len before at is p within =
    subst (λ (ns : List ℕ). number_of entries p ≡ Some (slice_index ns p)) (sym is)
    (elim (cases_lt p place) [
      | inl less ↦ before p less ∙ ap Some (sym (get_or_append_left numbers (number ∷ []) 0 p (omega (arith, less, len))))
      | inr past ↦
          let same : place ≡ p = omega (arith, past, within) in
          subst (λ (k : ℕ). number_of entries k ≡ Some (slice_index (numbers ++ number ∷ []) k)) same (at ∙ ap Some (sym (get_or_push numbers number 0 place len)))
    ])

-- there is one
pub numbered : (entries : List (List ℕ)) (place : ℕ) → place < length entries → number_of entries place ≡ None → ⊥
numbered entries place within none =
    let there : IsSome {T = ℕ} None = subst (λ (number : Option ℕ). IsSome number) none (number_found entries place within) in absurd (true≢false (sym there))
