-- What is kept from one frame to the next, and how the frames end.
use Rattle.std.proofs.Common.{◌≡◌, ◌<◌, ℕ, ◌+◌, true, List, [], ◌∷◌, ◌++◌, length, take, Option, Some, None, Ok, Err, refl, sym, ap, ◌∙◌, arith, subst, append_assoc, length-append, inl, inr}
use Rattle.std.specs.Prelude.{IfSome}
use Rattle.std.specs.Io.KnownBytes.{Appends}
use Rattle.std.proofs.KnownBytes.{Appends-kept, Appends-nil, Appends-trans, Keeps-refl}
use Rattle.std.proofs.Math.Seq.{take-append_seam}
use Rattle.std.proofs.lemmas.List.{append-nil, length-map, map-append}
use Rattle.mib_state.specs.Entities.{Entities}
use Rattle.frame_stats.specs.Figures.{Frames, SomePasses, figure}
use Rattle.bench_capture.specs.Calls.{GoesOn, Position}
use Rattle.bench_capture.specs.Reading.{Reading}
use Rattle.bench_capture.specs.Recorded.{Recorded}
use Rattle.bench_capture.specs.declared.fault.ReadFault.{ReadFault}
use Rattle.bench_capture.specs.declared.fault.ReadFault.TheVariants.{Capture, Unreadable, NoMemory}
use Rattle.text_writing.specs.Written.{AppendsPart}
use Rattle.bench_forward.specs.Blocks.{section_block}
use Rattle.bench_forward.specs.Drops.{drops_header}
use Rattle.bench_forward.specs.Frames.{drops_of, leaving, left_by, packets_of, verdict_on, verdicts_on}
use Rattle.bench_forward.specs.OneFrame.{IsForwarded, IsTooMuch, Leaves}
use Rattle.bench_forward.specs.Outcome.{AreForwarded, Ends, FirstAreForwarded, Written}
use Rattle.bench_forward.specs.Packets.{gems_behind, packet_file}
use Rattle.bench_forward.specs.Totals.{AreTotals}
use Rattle.bench_forward.specs.declared.fault.ForwardFault.{ForwardFault}
use Rattle.bench_forward.specs.declared.fault.ForwardFault.TheVariants.{Read, CountFull, Write}
use Rattle.bench_forward.specs.declared.forwarding.State.{State}
use Rattle.bench_forward.specs.declared.totals.Totals.{Totals}
use Rattle.bench_forward.proofs.OneMore.{drops_more, figure_more, gems_more, lines_more, packets_more, totals_more}
use Rattle.bench_forward.proofs.Wholes.{past_behind}

-- ---- what is kept

-- the frames seen so far are forwarded
pub record AreSoFar (e : Entities) (port : ℕ) (seen : List Recorded) (s : State) (w : Written) : Type 0 where
  pub forwarded : AreForwarded e port seen w s.totals
  pub gems : s.interfaces ≡ gems_behind [] (leaving e port seen)

-- these frames were in front of what is left, where that is known
abbrev pub IsLeft : Option Reading → Option Reading → List Recorded → Type 0
IsLeft None now seen = Unit {0}
IsLeft (Some all) None seen = ⊥
IsLeft (Some all) (Some left) seen = (all.frames ≡ seen ++ left.frames) × (all.fault ≡ left.fault)

pub left_at_start : (all : Option Reading) → IsLeft all all []
left_at_start None = tt
left_at_start (Some all) = (refl, refl)

-- before the first frame
pub so_far_none : (e : Entities) (port : ℕ) (s : State) (pb pa db da lines : Option (List ℕ)) → s.interfaces ≡ [] → AreTotals [] 0 s.totals → Appends pb pa section_block → Appends db da (drops_header port)
    → AreSoFar e port [] s (record { packets_before = pb; packets_after = pa; drops_before = db; drops_after = da; lines_before = lines; lines_after = lines })
unfolding packets_of packet_file drops_of
so_far_none e port s pb pa db da lines none totals header drops = record {
  forwarded = record {
    packets = subst (λ bytes. Appends pb pa bytes) (sym (append-nil section_block)) header;
    drops = subst (λ bytes. Appends db da bytes) (sym (append-nil (drops_header port))) drops;
    lines = Appends-nil lines;
    totals = totals;
  };
  gems = none;
}

-- one frame more
pub so_far_more : (e : Entities) (port : ℕ) (seen : List Recorded) (frame : Recorded) (s t : State) (pb pm pa db dm da lb lm la : Option (List ℕ))
    → AreSoFar e port seen s (record { packets_before = pb; packets_after = pm; drops_before = db; drops_after = dm; lines_before = lb; lines_after = lm })
    → IsForwarded e port frame s t (record { packets_before = pm; packets_after = pa; drops_before = dm; drops_after = da; lines_before = lm; lines_after = la })
    → AreSoFar e port (seen ++ frame ∷ []) t (record { packets_before = pb; packets_after = pa; drops_before = db; drops_after = da; lines_before = lb; lines_after = la })
so_far_more e port seen frame s t pb pm pa db dm da lb lm la now more =
    let was = now.forwarded in
    let number : s.totals.frames + 1 ≡ length seen + 1 = omega (arith, was.totals.figures Frames, length-map seen (verdict_on e port)) in
    record {
      forwarded = record {
        packets = rw (packets_more e port seen frame (s.totals.frames + 1) number, ← now.gems) (Appends-trans pb pm pa _ _ was.packets more.packets);
        drops = rw (drops_more e port seen frame (s.totals.frames + 1) number) (Appends-trans db dm da _ _ was.drops more.drops);
        lines = rw (lines_more e port seen frame (s.totals.frames + 1) number) (Appends-trans lb lm la _ _ was.lines more.lines);
        totals = totals_more e port seen frame s.totals t.totals was.totals more.totals;
      };
      gems = more.interfaces ∙ ap (λ gems. gems_behind gems (left_by (s.totals.frames + 1) frame.time (verdict_on e port frame))) now.gems ∙ sym (gems_more e port seen frame (s.totals.frames + 1) number);
    }

-- ---- what is left

-- the reader stands at a frame
pub left_more : (initial old : Option Reading) (new : Position) (seen : List Recorded) (frame : Recorded) → IsLeft initial old seen
    → IfSome old (λ all. GoesOn all (Ok true) new) → Some frame ≡ new.frame → IsLeft initial new.left (seen ++ frame ∷ [])
left_more None old new seen frame is goes at = tt
left_more (Some all) None new seen frame is goes at = absurd is
left_more (Some all) (Some left) new seen frame is goes at =
    let rest = goes.1 in
    let there : new.left ≡ Some rest = ap (λ (p : Position). p.left) goes.2 in
    let same : frame ≡ goes.0 = (let both : Some frame ≡ Some goes.0 = at ∙ ap (λ (p : Position). p.frame) goes.2 in cc) in
    let frames : all.frames ≡ (seen ++ frame ∷ []) ++ rest.frames =
    is.0 ∙ ap (λ (r : Reading). seen ++ r.frames) goes.3 ∙ ap (λ f. seen ++ (f ∷ rest.frames)) (sym same) ∙ sym (append_assoc seen (frame ∷ []) rest.frames) in
    subst (λ left. IsLeft (Some all) left (seen ++ frame ∷ [])) (sym there) (frames, is.1 ∙ ap (λ (r : Reading). r.fault) goes.3)

-- the frames seen are the first of all
first_seen : (initial old : Option Reading) (seen : List Recorded) → IsLeft initial old seen → IfSome initial (λ all. (rest : List Recorded) × (all.frames ≡ seen ++ rest))
first_seen None old seen is = tt
first_seen (Some all) None seen is = absurd is
first_seen (Some all) (Some left) seen is = (left.frames, is.0)

-- ---- how it ends

first_are : (e : Entities) (port : ℕ) (frames seen rest : List Recorded) (w : Written) (t : Totals) → frames ≡ seen ++ rest → AreForwarded e port seen w t
    → FirstAreForwarded e port frames (length seen) w t
first_are e port frames seen rest w t is are = record {
  within = rw is (omega (arith, length-append seen rest));
  forwarded = rw (is, take-append_seam seen rest) are;
}

pub ends_by_reader : (initial old : Option Reading) (new : Position) (seen : List Recorded) (e : Entities) (port : ℕ) (s : State) (w : Written) (fault : ReadFault) → IsLeft initial old seen
    → IfSome old (λ all. GoesOn all (Err fault) new) → AreSoFar e port seen s w → IfSome initial (λ all. Ends e port all (Err (Read fault)) w s.totals)
ends_by_reader None old new seen e port s w fault is goes now = tt
ends_by_reader (Some all) None new seen e port s w fault is goes now = absurd is
ends_by_reader (Some all) (Some left) new seen e port s w (Capture fault) is goes now =
    let whole : all.frames ≡ seen = is.0 ∙ ap (λ (r : Reading). seen ++ r.frames) goes.0 ∙ append-nil seen in
    (is.1 ∙ ap (λ (r : Reading). r.fault) goes.0, rw whole now.forwarded)
ends_by_reader (Some all) (Some left) new seen e port s w (Unreadable kind) is goes now =
    (length seen, first_are e port all.frames seen left.frames w s.totals is.0 now.forwarded)
ends_by_reader (Some all) (Some left) new seen e port s w NoMemory is goes now =
    (length seen, first_are e port all.frames seen left.frames w s.totals is.0 now.forwarded)

-- the header isn't written whole
pub ends_in_header : (initial : Option Reading) (e : Entities) (port : ℕ) (t : Totals) (pb pa db da lines : Option (List ℕ)) → AppendsPart pb pa section_block → AppendsPart db da (drops_header port) → AreTotals [] 0 t
    → IfSome initial (λ all. Ends e port all (Err Write) (record { packets_before = pb; packets_after = pa; drops_before = db; drops_after = da; lines_before = lines; lines_after = lines }) t)
ends_in_header None e port t pb pa db da lines part drops none = tt
ends_in_header (Some all) e port t pb pa db da lines part drops none = inl (record { packets = part; drops = drops; lines = Keeps-refl lines; totals = none })

-- the frames behind which the next is this
record IsNext (frames seen : List Recorded) (frame : Recorded) : Type 0 where
  within : length seen < length frames
  front : take (length seen) frames ≡ seen
  with_next : take (length seen + 1) frames ≡ seen ++ frame ∷ []

next_is : (frames seen rest : List Recorded) (frame : Recorded) → frames ≡ (seen ++ frame ∷ []) ++ rest → IsNext frames seen frame
next_is frames seen rest frame is =
    let parts : frames ≡ seen ++ (frame ∷ rest) = is ∙ append_assoc seen (frame ∷ []) rest in
    let size : length seen + 1 ≡ length (seen ++ frame ∷ []) = omega (arith, length-append seen (frame ∷ [])) in
    record {
      within = rw parts (omega (arith, length-append seen (frame ∷ rest)));
      front = rw parts (take-append_seam seen (frame ∷ rest));
      with_next = rw (is, size) (take-append_seam (seen ++ frame ∷ []) rest);
    }

module _ (all : Reading) (seen : List Recorded) (frame : Recorded) (next : IsNext all.frames seen frame) (e : Entities) (port : ℕ) (s t : State) (pb pm pa db dm da lb lm la : Option (List ℕ))
    (now : AreSoFar e port seen s (record { packets_before = pb; packets_after = pm; drops_before = db; drops_after = dm; lines_before = lb; lines_after = lm })) where
  passes_with : IsTooMuch e port frame s t (record { packets_before = pm; packets_after = pa; drops_before = dm; drops_after = da; lines_before = lm; lines_after = la })
      → SomePasses (verdicts_on e port (seen ++ frame ∷ []))
  passes_with much =
      let f = much.passes.0 in
      let here = now.forwarded.totals.figures f in
      let more = figure_more f (verdicts_on e port seen) (verdict_on e port frame) ∙ ap (figure f) (sym (map-append (verdict_on e port) seen (frame ∷ []))) in
      (f, omega (arith, here, more, much.passes.1))

  ends_by : (fault : ForwardFault) → Leaves e port frame (Err fault) s t (record { packets_before = pm; packets_after = pa; drops_before = dm; drops_after = da; lines_before = lm; lines_after = la })
      → Ends e port all (Err fault) (record { packets_before = pb; packets_after = pa; drops_before = db; drops_after = da; lines_before = lb; lines_after = la }) t.totals
  ends_by (Read fault) leaves = absurd leaves
  ends_by CountFull much = (
    length seen,
    record {
      within = omega (arith, next.within);
      forwarded = rw next.front (record {
        packets = Appends-kept pb pm pa _ now.forwarded.packets much.packets;
        drops = Appends-kept db dm da _ now.forwarded.drops much.drops;
        lines = Appends-kept lb lm la _ now.forwarded.lines much.lines;
        totals = rw much.totals now.forwarded.totals;
      });
    },
    rw next.with_next (passes_with much),
  )
  ends_by Write broken =
      let number : s.totals.frames + 1 ≡ length seen + 1 = omega (arith, now.forwarded.totals.figures Frames, length-map seen (verdict_on e port)) in
      inr (
        length seen,
        record {
          within = next.within;
          packets = rw (next.front, next.with_next, packets_more e port seen frame (s.totals.frames + 1) number, ← now.gems) (past_behind pb pm pa _ _ now.forwarded.packets broken.packets);
          drops = rw (next.front, next.with_next, drops_more e port seen frame (s.totals.frames + 1) number) (past_behind db dm da _ _ now.forwarded.drops broken.drops);
          lines = rw (next.front, next.with_next, lines_more e port seen frame (s.totals.frames + 1) number) (past_behind lb lm la _ _ now.forwarded.lines broken.lines);
          totals = rw (next.front, broken.totals) now.forwarded.totals;
        },
      )

pub ends_in_frame : (initial old : Option Reading) (new : Position) (seen : List Recorded) (frame : Recorded) (e : Entities) (port : ℕ) (s t : State) (fault : ForwardFault)
    (pb pm pa db dm da lb lm la : Option (List ℕ)) → IsLeft initial old seen → IfSome old (λ all. GoesOn all (Ok true) new) → Some frame ≡ new.frame
    → AreSoFar e port seen s (record { packets_before = pb; packets_after = pm; drops_before = db; drops_after = dm; lines_before = lb; lines_after = lm })
    → Leaves e port frame (Err fault) s t (record { packets_before = pm; packets_after = pa; drops_before = dm; drops_after = da; lines_before = lm; lines_after = la })
    → IfSome initial (λ all. Ends e port all (Err fault) (record { packets_before = pb; packets_after = pa; drops_before = db; drops_after = da; lines_before = lb; lines_after = la }) t.totals)
ends_in_frame None old new seen frame e port s t fault pb pm pa db dm da lb lm la is goes at now leaves = tt
ends_in_frame (Some all) old new seen frame e port s t fault pb pm pa db dm da lb lm la is goes at now leaves =
    let there = first_seen (Some all) new.left (seen ++ frame ∷ []) (left_more (Some all) old new seen frame is goes at) in
    ends_by all seen frame (next_is all.frames seen there.0 frame there.1) e port s t pb pm pa db dm da lb lm la now fault leaves
