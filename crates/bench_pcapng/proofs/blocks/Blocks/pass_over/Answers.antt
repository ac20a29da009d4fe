-- The front of the block shows how it is passed over.
use Rattle.std.proofs.Common.{◌≡◌, ◌<◌, ◌≤◌, ◌∙◌, ◌%◌, ◌==◌, ℕ, List, Bool, true, false, Some, None, ap, arith, drop, take, length, eq-eqb, sym}
use Rattle.std.specs.Prelude.{◌||◌, not, if◌then◌else◌, nat_lt, Result}
use Rattle.std.proofs.lemmas.Bool.{le-ltb, lt-ltb, ne_eqb}
use Rattle.std.proofs.lemmas.List.{take_rest}
use Rattle.bench_pcapng.specs.Blocks.{kind_of, order_of_block}
use Rattle.bench_pcapng.specs.Effects.{effect_of}
use Rattle.bench_pcapng.specs.Numbers.{number_in}
use Rattle.bench_pcapng.specs.Passing.{body_shown, described_by, is_shown, passed_by, passing_by, passing_in, passing_of, shown_length}
use Rattle.bench_pcapng.specs.Reading.{Progress}
use Rattle.bench_pcapng.specs.declared.effect.Effect.{Effect}
use Rattle.bench_pcapng.specs.declared.fault.BlockFault.{BlockFault}
use Rattle.bench_pcapng.specs.declared.interface.Interface.{Interface}
use Rattle.bench_pcapng.specs.declared.order.Order.{Order}
use Rattle.bench_pcapng.specs.declared.passing.Past.{Past}
use Rattle.bench_pcapng.proofs.PassedOver.{does_as_held}
use Rattle.bench_pcapng.proofs.blocks.Blocks.pass_over.Goals as goal

shown_test : (bytes : List ℕ) (total : ℕ) → shown_length ≤ length bytes → total % 4 ≡ 0 → length bytes < total → is_shown bytes total ≡ true
shown_test bytes total enough even longer =
    let a : nat_lt (length bytes) shown_length ≡ false = le-ltb _ _ enough in
    let b : (total % 4 == 0) ≡ true = eq-eqb _ _ even in
    let d : nat_lt (length bytes) total ≡ true = lt-ltb _ _ longer in
    ap (λ (short : Bool). not (short || not (total % 4 == 0) || not (nat_lt (length bytes) total))) a
    ∙ ap (λ (same : Bool). not (false || not same || not (nat_lt (length bytes) total))) b
    ∙ ap (λ (beyond : Bool). not (false || not true || not beyond)) d

-- what was read of the block
record IsFront (known : Progress) (bytes : List ℕ) (own : Order) (kind total : ℕ) : Type 0 where
  ordered : order_of_block known.order bytes ≡ Some own
  kind_is : kind_of known.order bytes ≡ kind
  total_is : number_in 4 own (drop 4 bytes) ≡ total
  enough : shown_length ≤ length bytes
  even : total % 4 ≡ 0
  longer : length bytes < total

shown_by : (known : Progress) (bytes : List ℕ) (own : Order) (kind total : ℕ) → IsFront known bytes own kind total
    → passing_of known bytes ≡ (if kind == 1 then Some (described_by own total (body_shown bytes))
    else passed_by own total kind (effect_of known.order known.interfaces known.time kind (body_shown bytes)))
unfolding passing_of
shown_by known bytes own kind total is =
    ap (λ (short : Bool). if short then None else passing_in known bytes (order_of_block known.order bytes)) (le-ltb _ _ is.enough)
    ∙ ap (passing_in known bytes) is.ordered
    ∙ ap (λ (n : ℕ). passing_by known bytes own (kind_of known.order bytes) n) is.total_is
    ∙ ap (λ (n : ℕ). passing_by known bytes own n total) is.kind_is
    ∙ ap (λ (shown : Bool). if shown then (if kind == 1 then Some (described_by own total (body_shown bytes))
    else passed_by own total kind (effect_of known.order known.interfaces known.time kind (body_shown bytes))) else None)
    (shown_test bytes total is.enough is.even is.longer)

shown_interface : (known : Progress) (bytes : List ℕ) (own : Order) (kind total : ℕ) → IsFront known bytes own kind total → kind ≡ 1
    → passing_of known bytes ≡ Some (described_by own total (body_shown bytes))
shown_interface known bytes own kind total is one =
    shown_by known bytes own kind total is
    ∙ ap (λ (interface : Bool). if interface then Some (described_by own total (body_shown bytes))
    else passed_by own total kind (effect_of known.order known.interfaces known.time kind (body_shown bytes))) (eq-eqb kind 1 one)

shown_other : (known : Progress) (bytes : List ℕ) (own : Order) (kind total : ℕ) → IsFront known bytes own kind total → (kind ≡ 1 → ⊥)
    → passing_of known bytes ≡ passed_by own total kind (effect_of known.order known.interfaces known.time kind (body_shown bytes))
shown_other known bytes own kind total is other =
    shown_by known bytes own kind total is
    ∙ ap (λ (interface : Bool). if interface then Some (described_by own total (body_shown bytes))
    else passed_by own total kind (effect_of known.order known.interfaces known.time kind (body_shown bytes))) (ne_eqb kind 1 other)

pub returns-then-kind-eq-INTERFACE-clause-value : goal.returns-then-kind-eq-INTERFACE-clause-value
returns-then-kind-eq-INTERFACE-clause-value c =
    let known = c.args.self.now in
    let bytes = c.args.bytes.now in
    let own = c.in_ok-own.own in
    let total = c.read_u32-total.result in
    let front : IsFront known bytes own c.read_u32-kind.result total = record {
      ordered = ap (λ (p : Progress). order_of_block p.order bytes) (sym c.self.view_is) ∙ sym c.in_ok-own.ensures;
      kind_is = ap (λ (p : Progress). kind_of p.order bytes) (sym c.self.view_is) ∙ sym c.read_u32-kind.ensures;
      total_is = sym (c.read_u32-total.ensures ∙ ap (λ (left : List ℕ). number_in 4 own left) (take_rest bytes 4));
      enough = c.if-bytes-lt-SHOWN_LEN.false;
      even = omega arith;
      longer = omega arith;
    } in
    let body : c.split_at-2.result.0.now ≡ body_shown bytes = c.split_at-2.ensures.front ∙ ap (take 262164) c.split_at.ensures.back in
    ap (λ (past : Past). Some past) (c.described_by.ensures ∙ ap (λ (held : List ℕ). described_by own total held) body)
    ∙ sym (shown_interface known bytes own c.read_u32-kind.result total front c.if-kind-eq-INTERFACE.true)

pub returns-clause-value : goal.returns-clause-value
returns-clause-value c =
    let known = c.args.self.now in
    let bytes = c.args.bytes.now in
    let own = c.in_ok-own.own in
    let total = c.read_u32-total.result in
    let kind = c.read_u32-kind.result in
    let front : IsFront known bytes own kind total = record {
      ordered = ap (λ (p : Progress). order_of_block p.order bytes) (sym c.self.view_is) ∙ sym c.in_ok-own.ensures;
      kind_is = ap (λ (p : Progress). kind_of p.order bytes) (sym c.self.view_is) ∙ sym c.read_u32-kind.ensures;
      total_is = sym (c.read_u32-total.ensures ∙ ap (λ (left : List ℕ). number_in 4 own left) (take_rest bytes 4));
      enough = c.if-bytes-lt-SHOWN_LEN.false;
      even = omega arith;
      longer = omega arith;
    } in
    let body : c.split_at-2.result.0.now ≡ body_shown bytes = c.split_at-2.ensures.front ∙ ap (take 262164) c.split_at.ensures.back in
    let does : c.read_block.result ≡ effect_of known.order known.interfaces known.time kind (body_shown bytes) =
    c.read_block.ensures
    ∙ ap (λ (list : List Interface). effect_of c.self.inside.order list c.self.inside.time kind c.split_at-2.result.0.now) c.as_slice-interfaces.ensures.value
    ∙ ap (λ (held : List ℕ). effect_of c.self.inside.order c.self.inside.interfaces.items c.self.inside.time kind held) body
    ∙ ap (λ (p : Progress). effect_of p.order p.interfaces p.time kind (body_shown bytes)) c.self.view_is in
    c.passed_by.ensures ∙ ap (λ (effect : Result Effect BlockFault). passed_by own total kind effect) does
    ∙ sym (shown_other known bytes own kind total front c.if-kind-eq-INTERFACE.false)

pub returns-then-kind-eq-INTERFACE-clause-same : goal.returns-then-kind-eq-INTERFACE-clause-same
returns-then-kind-eq-INTERFACE-clause-same c = does_as_held c.args.self.now c.args.bytes.now _ (returns-then-kind-eq-INTERFACE-clause-value c)

pub returns-clause-same : goal.returns-clause-same
returns-clause-same c = does_as_held c.args.self.now c.args.bytes.now _ (returns-clause-value c)
