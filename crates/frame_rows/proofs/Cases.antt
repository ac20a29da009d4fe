-- Every frame has a fault or is read, by its length and its types.
use Rattle.std.proofs.Common.{◌≡◌, ℕ, ◌<◌, ◌^◌, Bool, true, false, List, ◌++◌, Some, Err, refl, length, nat_lt}
use Rattle.std.specs.Prelude.{All}
use Rattle.std.proofs.lemmas.Bool.{ltb-false, ltb-true}
use Rattle.tag_view.specs.declared.fault.FrameFault.{FrameFault}
use Rattle.tag_view.specs.declared.fault.FrameFault.TheVariants.{Runt, CutTag}
use Rattle.tag_view.specs.Tag.{is_tag_type}
use Rattle.tag_view.specs.Frame.{Reading, fault_of, frame_of, type_at}
use Rattle.tag_view.proofs.Readings.{frame_refused, runt_frame}
use Rattle.frame_meaning.specs.Reason.{reason_of_fault}
use Rattle.frame_rows.specs.declared.class.Use.TheVariants.{Unread}
use Rattle.frame_rows.specs.declared.row.Ends.TheVariants.{Dropped}
use Rattle.frame_rows.specs.declared.row.Row.{Row}
use Rattle.frame_rows.specs.Field.{values_of}
use Rattle.frame_rows.specs.Row.{first_cut_row, first_row, runt_row, second_cut_row}
use Rattle.frame_rows.specs.Rows.{fault_rows}
use Rattle.frame_rows.proofs.Faults.{IsRead, first_cut_is, read_tagged, read_twice_tagged, read_untagged, runt_is, second_cut_is}

-- a frame has a fault, and this row is its
pub record HasFault (input : ℕ) (bytes : List ℕ) (fault : FrameFault) (row : Row) : Type 0 where
  pub refused : frame_of input bytes ≡ Err fault
  pub first : (rest : List Row) → first_row (fault_rows input ++ rest) (values_of bytes) ≡ Some row
  pub used : row.used ≡ Unread
  pub ends : row.ends ≡ Dropped (reason_of_fault fault)

pub by_reading : (input : ℕ) (bytes : List ℕ) (P : Type 0) → All (λ b. b < 2 ^ 8) bytes
    → ((fault : FrameFault) (row : Row) → HasFault input bytes fault row → P) → ((frame : Reading) → IsRead input bytes frame → P) → P
unfolding fault_of
by_reading input bytes P fits has_fault is_read =
    by_length (nat_lt (length bytes) 14) (is_tag_type input (type_at 12 bytes)) (nat_lt (length bytes) 18) (is_tag_type input (type_at 16 bytes))
    (nat_lt (length bytes) 22) refl refl refl refl refl
  where
    by_length : (short tag cut tag' cut' : Bool) → nat_lt (length bytes) 14 ≡ short → is_tag_type input (type_at 12 bytes) ≡ tag
        → nat_lt (length bytes) 18 ≡ cut → is_tag_type input (type_at 16 bytes) ≡ tag' → nat_lt (length bytes) 22 ≡ cut' → P
    by_length true tag cut tag' cut' p q r s t =
        let short : length bytes < 14 = ltb-true (length bytes) 14 p in
        has_fault Runt runt_row (record {
          refused = frame_refused input bytes Runt (runt_frame input bytes short);
          first = λ rest. runt_is input bytes rest short;
          used = refl;
          ends = refl;
        })
    by_length false false cut tag' cut' p q r s t = is_read _ (read_untagged input bytes (ltb-false (length bytes) 14 p) q fits)
    by_length false true true tag' cut' p q r s t =
        has_fault CutTag (first_cut_row input) (record {
          refused = frame_refused input bytes CutTag (rw (p, q, r) refl);
          first = λ rest. first_cut_is input bytes rest (ltb-false (length bytes) 14 p) (ltb-true (length bytes) 18 r) q;
          used = refl;
          ends = refl;
        })
    by_length false true false false cut' p q r s t = is_read _ (read_tagged input bytes (ltb-false (length bytes) 18 r) q s fits)
    by_length false true false true true p q r s t =
        has_fault CutTag (second_cut_row input) (record {
          refused = frame_refused input bytes CutTag (rw (p, q, r, s, t) refl);
          first = λ rest. second_cut_is input bytes rest (ltb-false (length bytes) 18 r) (ltb-true (length bytes) 22 t) q s;
          used = refl;
          ends = refl;
        })
    by_length false true false true false p q r s t = is_read _ (read_twice_tagged input bytes (ltb-false (length bytes) 22 t) q s fits)
