-- What is said of a trace that isn't carried out, and of one that is.
use Rattle.std.proofs.Common.{◌≡◌, ◌∙◌, ◌⊎◌, ℕ, ℤ, Bool, List, Option, Some, None, refl, sym, ap, inl, inr}
use Rattle.script_trace.specs.Script.{IsWhyNotApplied, first_bad}
use Rattle.script_trace.specs.declared.fault.ScriptFault.{ScriptFault}
use Rattle.script_trace.specs.declared.fault.ScriptFault.TheVariants.{BadLine, NoMemory}
use Rattle.onu_cell.specs.Numbers.{bad_after, bad_line, no_memory}
use Rattle.onu_scripts.specs.Comparing.{ComparesInto, Finds, IsRefusal, ReadsInto}

without_memory : (AreGood : Type 0) (IsFound : Bool → Type 0) (room : List ℕ) (result : ℤ) (written line : ℕ) → result ≡ no_memory → written ≡ 0
    → line ≡ 0 → Finds AreGood IsFound room room result written line
without_memory AreGood IsFound room result written line is none names = record {
  good = inr is;
  names = names;
  found = record {
    nothing = λ zero. absurd (cc (is, zero));
    something = λ one. absurd (cc (is, one));
    made = record {
      made = λ zero. absurd (cc (is, zero));
      wrong = λ one. absurd (cc (is, one));
      number = inr (inr (inr is));
      says = (λ refused. none, λ short. absurd (cc (is, short)));
      kept = λ refused. refl;
    };
  };
}

pub refused : (until : Option ℕ) (trace : List ℕ) (IsFound : Bool → Type 0) (fault : ScriptFault) (number : ℤ) (room : List ℕ) (result : ℤ) (written line : ℕ)
    → IsWhyNotApplied until trace fault → IsRefusal number fault result written line
    → ReadsInto number (first_bad until trace) IsFound room room result written line
refused until trace IsFound (BadLine n) number room result written line bad is =
    inl (record { number = is.0; names = bad ∙ ap Some (sym is.2); says = is.1; kept = refl })
refused until trace IsFound NoMemory number room result written line bad is =
    inr (without_memory (first_bad until trace ≡ None) IsFound room result written line is.0 is.1 is.2)

-- of two traces the one before isn't carried out
pub first_refused : (until : Option ℕ) (trace : List ℕ) (other : Option ℕ) (IsFound : Bool → Type 0) (fault : ScriptFault) (room : List ℕ) (result : ℤ)
    (written line : ℕ) → IsWhyNotApplied until trace fault → IsRefusal bad_line fault result written line
    → ComparesInto (first_bad until trace) other IsFound room room result written line
first_refused until trace other IsFound (BadLine n) room result written line bad is =
    inl (record { number = is.0; names = bad ∙ ap Some (sym is.2); says = is.1; kept = refl })
first_refused until trace other IsFound NoMemory room result written line bad is =
    inr (inr (without_memory ((first_bad until trace ≡ None) × (other ≡ None)) IsFound room result written line is.0 is.1 is.2))

-- the one before is, and this is what is said of the one after
pub second_read : (bad other : Option ℕ) (IsFound : Bool → Type 0) (room after : List ℕ) (result : ℤ) (written line : ℕ) → bad ≡ None
    → ReadsInto bad_after other IsFound room after result written line → ComparesInto bad other IsFound room after result written line
second_read bad other IsFound room after result written line none (inl is) = inr (inl (none, is))
second_read bad other IsFound room after result written line none (inr is) =
    inr (inr (record { good = both is.good; names = is.names; found = is.found }))
  where
    both : (other ≡ None) ⊎ (result ≡ no_memory) → ((bad ≡ None) × (other ≡ None)) ⊎ (result ≡ no_memory)
    both (inl good) = inl (none, good)
    both (inr refusal) = inr refusal

-- one trace is up to its last line, and this is what is said of it up to a line before, where none is bad
pub earlier_read : (bad earlier : Option ℕ) (IsFound : Bool → Type 0) (room after : List ℕ) (result : ℤ) (written line : ℕ) → bad ≡ None → earlier ≡ None
    → ReadsInto bad_line earlier IsFound room after result written line → ReadsInto bad_line bad IsFound room after result written line
earlier_read bad earlier IsFound room after result written line none good (inl is) = absurd (cc (good, is.names))
earlier_read bad earlier IsFound room after result written line none good (inr is) =
    inr (record { good = inl none; names = is.names; found = is.found })
