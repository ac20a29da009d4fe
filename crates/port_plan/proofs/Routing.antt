-- The routes of a mapper, by what each of their parts says.
use Rattle.std.proofs.Common.{◌≡◌, ◌≢◌, ℕ, zero, suc, ◌%◌, ◌+◌, ◌^◌, ◌<◌, false, List, [], ◌∷◌, length, replicate, set, below_more, get_or-set_other, get_or-set_same, Option, Some, None, refl, ap, sym, ◌∙◌, arith}
use Rattle.std.specs.Prelude.{slice_get, slice_index}
use Rattle.std.proofs.lemmas.Bool.{ne_eqb}
use Rattle.std.proofs.lemmas.List.{get_or-replicate}
use Rattle.std.proofs.lemmas.Option.{get_or_from_slice_get}
use Rattle.tag_view.specs.Dscp.{group_of}
use Rattle.pmapper.specs.declared.mapper.Mapper.{Mapper}
use Rattle.pmapper.specs.Mapper.{Unmarked, unmarked_of, unmarked_priority_of}
use Rattle.byteorder.specs.Endian.{big_bytes}
use Rattle.managed_entity.specs.Instance.{number_of}
use Rattle.managed_entity.specs.Shown.{mapper_instance}
use Rattle.mib_state.specs.Entities.{Entities}
use Rattle.port_plan.specs.declared.routes.Routes.{Routes}
use Rattle.frame_meaning.specs.Meaning.{pointers_at}
use Rattle.port_plan.specs.Plan.{AreRoutes, IsDscp, compiled_route, dscp_place}
use Rattle.frame_meaning.proofs.Numbers.{two_bytes, unmarked_is}

-- ---- lists of one element

pub all_below : (n x place : ℕ) → x < 8 → slice_index (replicate n x) place < 8
all_below zero x place h = omega arith
all_below (suc n) x zero h = h
all_below (suc n) x (suc place) h = all_below n x place h

pub all_zero : (n place : ℕ) → slice_index (replicate n 0) place ≡ 0
all_zero zero place = refl
all_zero (suc n) zero = refl
all_zero (suc n) (suc place) = all_zero n place

pub all_same : {A : Type 0} (n : ℕ) (x : A) (place : ℕ) → place < n → slice_get (replicate n x) place ≡ Some x
all_same zero x place h = absurd (omega arith)
all_same (suc n) x zero h = refl
all_same (suc n) x (suc place) h = all_same n x place (omega arith)

-- ---- the routes of a port without a mapper

pub of_none : (e : Entities) (routes : Routes) → routes.by_priority ≡ replicate 8 (compiled_route e None 0) → routes.untagged ≡ replicate 65 0 → AreRoutes e None routes
of_none e routes by_priority untagged =
    record {
      by_priority = λ priority small. rw by_priority (all_same 8 (compiled_route e None 0) priority small);
      untagged = λ dscp six. rw untagged (all_zero 65 (dscp_place dscp));
      foreseen = λ unused dscp. refl;
    }

-- ---- the routes of a mapper

-- one for each priority
pub eight : {A : Type 0} (route : ℕ → A) (r0 r1 r2 r3 r4 r5 r6 r7 : A)
    → r0 ≡ route 0 → r1 ≡ route 1 → r2 ≡ route 2 → r3 ≡ route 3 → r4 ≡ route 4 → r5 ≡ route 5 → r6 ≡ route 6 → r7 ≡ route 7
    → (priority : ℕ) → priority < 8 → slice_get (r0 ∷ r1 ∷ r2 ∷ r3 ∷ r4 ∷ r5 ∷ r6 ∷ r7 ∷ []) priority ≡ Some (route priority)
eight route r0 r1 r2 r3 r4 r5 r6 r7 e0 e1 e2 e3 e4 e5 e6 e7 zero h = ap Some e0
eight route r0 r1 r2 r3 r4 r5 r6 r7 e0 e1 e2 e3 e4 e5 e6 e7 (suc zero) h = ap Some e1
eight route r0 r1 r2 r3 r4 r5 r6 r7 e0 e1 e2 e3 e4 e5 e6 e7 (suc (suc zero)) h = ap Some e2
eight route r0 r1 r2 r3 r4 r5 r6 r7 e0 e1 e2 e3 e4 e5 e6 e7 (suc (suc (suc zero))) h = ap Some e3
eight route r0 r1 r2 r3 r4 r5 r6 r7 e0 e1 e2 e3 e4 e5 e6 e7 (suc (suc (suc (suc zero)))) h = ap Some e4
eight route r0 r1 r2 r3 r4 r5 r6 r7 e0 e1 e2 e3 e4 e5 e6 e7 (suc (suc (suc (suc (suc zero))))) h = ap Some e5
eight route r0 r1 r2 r3 r4 r5 r6 r7 e0 e1 e2 e3 e4 e5 e6 e7 (suc (suc (suc (suc (suc (suc zero)))))) h = ap Some e6
eight route r0 r1 r2 r3 r4 r5 r6 r7 e0 e1 e2 e3 e4 e5 e6 e7 (suc (suc (suc (suc (suc (suc (suc zero))))))) h = ap Some e7
eight route r0 r1 r2 r3 r4 r5 r6 r7 e0 e1 e2 e3 e4 e5 e6 e7 (suc (suc (suc (suc (suc (suc (suc (suc p)))))))) h = absurd (omega arith)

-- the priorities of frames without a tag under option 0
pub by_dscp : (m : Mapper) (untagged : List ℕ) → m.unmarked_frame_option ≡ 0
    → ((d : ℕ) → d < 64 → slice_index untagged d ≡ group_of m.dscp_map.0 d) → slice_index untagged 64 ≡ m.default_p_bit_assumption % 8
    → (dscp : Option ℕ) → IsDscp dscp → slice_index untagged (dscp_place dscp) ≡ unmarked_priority_of (unmarked_of m) dscp
by_dscp m untagged option mapped default (Some d) six = rw option (mapped d six)
by_dscp m untagged option mapped default None six = rw option default

-- and under every other option, where the DSCP makes no difference
pub by_default : (m : Mapper) (dscp : Option ℕ) → m.unmarked_frame_option ≢ 0 → unmarked_priority_of (unmarked_of m) dscp ≡ m.default_p_bit_assumption % 8
by_default m dscp option = rw (ne_eqb m.unmarked_frame_option 0 option) refl

pub all_default : (m : Mapper) → m.unmarked_frame_option ≢ 0
    → (dscp : Option ℕ) → IsDscp dscp → slice_index (replicate 65 (m.default_p_bit_assumption % 8)) (dscp_place dscp) ≡ unmarked_priority_of (unmarked_of m) dscp
all_default m option (Some d) six = get_or-replicate 65 d _ 0 (omega arith) ∙ sym (by_default m (Some d) option)
all_default m option None six = sym (by_default m None option)

-- one place after another gets its priority
pub mapped_more : (m : Mapper) (untagged : List ℕ) (dscp priority : ℕ) → dscp < length untagged → priority ≡ group_of m.dscp_map.0 dscp
    → ((d : ℕ) → d < dscp → slice_index untagged d ≡ group_of m.dscp_map.0 d)
    → (d : ℕ) → d < dscp + 1 → slice_index (set untagged dscp priority) d ≡ group_of m.dscp_map.0 d
mapped_more m untagged dscp priority within right before =
    below_more _ _
    (λ d below. let other : d ≢ dscp = omega arith in get_or-set_other untagged dscp d priority 0 other ∙ before d below)
    (get_or-set_same untagged dscp priority 0 within ∙ right)

pub bound_more : (untagged : List ℕ) (dscp priority : ℕ) → priority < 8 → ((place : ℕ) → slice_index untagged place < 8)
    → (place : ℕ) → slice_index (set untagged dscp priority) place < 8
bound_more [] dscp priority small before place = before place
bound_more (x ∷ untagged) zero priority small before zero = small
bound_more (x ∷ untagged) zero priority small before (suc place) = before (suc place)
bound_more (x ∷ untagged) (suc dscp) priority small before zero = before zero
bound_more (x ∷ untagged) (suc dscp) priority small before (suc place) = bound_more untagged dscp priority small (λ place. before (suc place)) place

pub of_some : (e : Entities) (n : ℕ) (m : Mapper) (routes : Routes)
    → ((priority : ℕ) → priority < 8 → slice_get routes.by_priority priority ≡ Some (compiled_route e (Some (mapper_instance n m)) priority))
    → ((dscp : Option ℕ) → IsDscp dscp → slice_index routes.untagged (dscp_place dscp) ≡ unmarked_priority_of (unmarked_of m) dscp)
    → (routes.uses_dscp ≡ false → m.unmarked_frame_option ≢ 0)
    → AreRoutes e (Some (mapper_instance n m)) routes
of_some e n m routes by_priority untagged unused =
    let same = λ (dscp : Option ℕ). ap (λ (u : Unmarked). unmarked_priority_of u dscp) (unmarked_is n m) in
    record {
      by_priority = by_priority;
      untagged = λ dscp six. untagged dscp six ∙ sym (same dscp);
      foreseen = λ no dscp. same dscp ∙ (by_default m dscp (unused no) ∙ sym (by_default m None (unused no))) ∙ sym (same None);
    }

-- the pointer of a priority is attribute 2 and the following ones
pub pointer_number : (n p : ℕ) (m : Mapper) → p < 8 → slice_index m.interwork_tp_pointers p < 2 ^ 16
    → slice_index m.interwork_tp_pointers p ≡ slice_index (pointers_at (mapper_instance n m)) p
pointer_number n p m small fits =
    let spelled : ℕ → ℕ = λ i. number_of (big_bytes 2 (slice_index m.interwork_tp_pointers i)) in
    let at = eight spelled _ _ _ _ _ _ _ _ refl refl refl refl refl refl refl refl p small in
    sym (get_or_from_slice_get (pointers_at (mapper_instance n m)) p (spelled p) 0 at ∙ two_bytes _ fits)
