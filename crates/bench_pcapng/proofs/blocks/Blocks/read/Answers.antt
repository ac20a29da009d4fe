-- A step over a block is its effect.
use Rattle.std.proofs.Common.{◌≡◌, ◌∙◌, ℕ, ap, drop, arith, sym}
use Rattle.std.specs.Prelude.{Ok, Some}
use Rattle.bench_pcapng.specs.Blocks.{body_of, kind_of, whole_length}
use Rattle.bench_pcapng.specs.Effects.{effect_of}
use Rattle.bench_pcapng.specs.Reading.{Progress}
use Rattle.bench_pcapng.specs.Packets.{data_start}
use Rattle.bench_pcapng.proofs.PacketPlaces.{given_stands, step_given}
use Rattle.bench_pcapng.proofs.blocks.Blocks.read.Goals as goal

pub returns-in-Ok-Some : goal.returns-in-Ok-Some
returns-in-Ok-Some c =
    let old = c.args.self.now in
    let bytes = c.args.bytes.now in
    let total = c.in-Some.length in
    let whole : whole_length old.order bytes ≡ Some total =
    ap (λ (p : Progress). whole_length p.order bytes) (sym c.self.view_is) ∙ sym c.in-Some.ensures.value in
    let read = rw (c.as_slice-interfaces.ensures.value, c.read_u32-kind.ensures, c.split_at-2.ensures.front, c.split_at.ensures.back) at c.in-Ok.ensures in
    let does : effect_of old.order old.interfaces old.time (kind_of old.order bytes) (body_of total bytes) ≡ Ok c.in-Ok.effect =
    ap (λ (p : Progress). effect_of p.order p.interfaces p.time (kind_of p.order bytes) (body_of total bytes)) (sym c.self.view_is) ∙ sym read in
    let applied = rw c.in-Ok-Some.field-0-is at c.in-Ok-Some.ensures in
    let yields = applied bytes (drop total bytes) in
    let kind : kind_of old.order bytes ≡ c.read_u32-kind.result =
    ap (λ (p : Progress). kind_of p.order bytes) (sym c.self.view_is) ∙ sym c.read_u32-kind.ensures in
    let start : data_start (kind_of old.order bytes) ≡ c.data_start-start.result =
    ap (λ (n : ℕ). data_start n) kind ∙ sym c.data_start-start.ensures in
    record {
      some = c.in-Some.ensures.least;
      within = c.in-Some.ensures.within;
      comes = (
        step_given old bytes total c.in-Ok.effect whole does ∙ yields,
        rw start at (given_stands old c.apply.new.self bytes total c.in-Ok.effect c.in-Ok-Some.packet (omega arith) does yields),
      );
    }

pub returns-in-Ok-None : goal.returns-in-Ok-None
returns-in-Ok-None c =
    let old = c.args.self.now in
    let bytes = c.args.bytes.now in
    let total = c.in-Some.length in
    let whole : whole_length old.order bytes ≡ Some total =
    ap (λ (p : Progress). whole_length p.order bytes) (sym c.self.view_is) ∙ sym c.in-Some.ensures.value in
    let read = rw (c.as_slice-interfaces.ensures.value, c.read_u32-kind.ensures, c.split_at-2.ensures.front, c.split_at.ensures.back) at c.in-Ok.ensures in
    let does : effect_of old.order old.interfaces old.time (kind_of old.order bytes) (body_of total bytes) ≡ Ok c.in-Ok.effect =
    ap (λ (p : Progress). effect_of p.order p.interfaces p.time (kind_of p.order bytes) (body_of total bytes)) (sym c.self.view_is) ∙ sym read in
    let applied = rw c.in-Ok-None.field-0-is at c.in-Ok-None.ensures in
    record {
      some = c.in-Some.ensures.least;
      within = c.in-Some.ensures.within;
      comes = step_given old bytes total c.in-Ok.effect whole does ∙ applied bytes (drop total bytes);
    }
