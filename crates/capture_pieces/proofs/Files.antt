-- What the walk over the records says of the file.
use Rattle.std.proofs.Common.{◌≡◌, ℕ, List, None, Ok, Err, drop, refl}
use Rattle.std.specs.Prelude.{Result, IfErr, IfOk}
use Rattle.capture.specs.Records.{capture_of, first_fault, frames_in, header_of}
use Rattle.capture.specs.declared.fault.CaptureFault.{CaptureFault}
use Rattle.capture.specs.declared.order.Order.{Order}

pub broken_header : (file : List ℕ) (fault : CaptureFault) → header_of file ≡ Err fault → capture_of file ≡ Err fault
unfolding capture_of
broken_header file fault header = rw header refl

-- all records are whole
pub whole_file : (file : List ℕ) (order : Order) → header_of file ≡ Ok order → first_fault order (drop 24 file) ≡ None → capture_of file ≡ Ok (frames_in order (drop 24 file))
unfolding capture_of
whole_file file order header whole = rw (header, whole) refl

-- ---- what holds of the outcome of a call

pub ok_both : {T E : Type 0} (r : Result T E) (P Q S : T → Type 0) → IfOk r P → IfOk r Q → ((x : T) → P x → Q x → S x) → IfOk r S
ok_both (Ok x) P Q S p q f = f x p q
ok_both (Err e) P Q S p q f = tt

pub err_then : {T E : Type 0} (r : Result T E) (P Q : E → Type 0) → IfErr r P → ((e : E) → P e → Q e) → IfErr r Q
err_then (Ok x) P Q p f = tt
err_then (Err e) P Q p f = f e p
