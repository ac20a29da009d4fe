use Rattle.std.proofs.Common.{◌≡◌, ◌⊎◌, ◌<◌, inl, inr, ap, arith, sym, ◌∙◌}
use Rattle.std.proofs.lemmas.Option.{none-some}
use Rattle.managed_entity.specs.Class.{class_number, class_of}
use Rattle.managed_entity.specs.declared.class.Class.{Class}
use Rattle.managed_entity.specs.declared.class.Class.TheVariants.{GemPort, Interwork, Mapper, OnuData, Vlan}
use Rattle.port_plan.proofs.Reading.{does_not_read, each_other}
use Rattle.port_plan.proofs.routes.Routes.reads.Goals as goal

pub returns-in_default : goal.returns-in_default
returns-in_default c = λ none.
    let unknown = sym c.in_default.is ∙ c.of.ensures.value in
    does_not_read c.args.class c.args.instance c.args.self.now (record {
      points = λ own. absurd (none-some Interwork (unknown ∙ ap class_of (sym own)));
      ctps = λ own. absurd (none-some GemPort (unknown ∙ ap class_of (sym own)));
    })

pub returns-in-Interwork : goal.returns-in-Interwork
returns-in-Interwork c = λ none.
    let is : c.args.class ≡ class_number Interwork = rw c.in-Interwork.is at c.in-Some.ensures.number in
    does_not_read c.args.class c.args.instance c.args.self.now (record {
      points = λ own. each_other (λ route. route.interwork) c.args.instance c.args.self.now.by_priority (sym c.reads_point.ensures ∙ none);
      ctps = λ own. absurd (omega (arith, own, is));
    })

pub returns-in-GemPort : goal.returns-in-GemPort
returns-in-GemPort c = λ none.
    let is : c.args.class ≡ class_number GemPort = rw c.in-GemPort.is at c.in-Some.ensures.number in
    does_not_read c.args.class c.args.instance c.args.self.now (record {
      points = λ own. absurd (omega (arith, own, is));
      ctps = λ own. each_other (λ route. route.gem_port) c.args.instance c.args.self.now.by_priority (sym c.reads_ctp.ensures ∙ none);
    })

-- no other class has a number behind 171
below : (class : Class) → (class ≡ OnuData) ⊎ (class ≡ Mapper) ⊎ (class ≡ Vlan) → class_number class < 172
below class (inl is) = rw is (omega arith)
below class (inr (inl is)) = rw is (omega arith)
below class (inr (inr is)) = rw is (omega arith)

pub returns-in-OnuData : goal.returns-in-OnuData
returns-in-OnuData c = λ none.
    let other : class_number c.in-Some.class < 172 = below c.in-Some.class c.in-OnuData.is in
    does_not_read c.args.class c.args.instance c.args.self.now (record {
      points = λ own. absurd (omega (arith, own, other, c.in-Some.ensures.number));
      ctps = λ own. absurd (omega (arith, own, other, c.in-Some.ensures.number));
    })
