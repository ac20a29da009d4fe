use Rattle.std.proofs.Common.{rules, sym, ◌∙◌}
use Rattle.frame_meaning.specs.Meaning.{gem_port_of}
use Rattle.frame_meaning.proofs.GemPorts.{of_some}
use Rattle.frame_meaning.proofs.gem_port.gem_port_of.Goals as goal

pub returns-in_err-pointer : goal.returns-in_err-pointer
unfolding gem_port_of
returns-in_err-pointer c = λ n. let is_pointer = c.pointer_of.ensures n in search rules

pub returns-in_err-point : goal.returns-in_err-point
unfolding gem_port_of
returns-in_err-point c = λ n. let is_pointer = c.pointer_of.ensures n in search rules

pub returns : goal.returns
returns c = λ n.
    c.gem_port_behind.ensures c.in_ok-pointer.pointer
    ∙ sym (of_some c.args.mib.now.entities _ c.args.priority c.in_ok-pointer.pointer _ (rw c.in_ok-pointer.ensures.ok_part at (sym (c.pointer_of.ensures n)))
    (sym (rw c.in_ok-point.ensures.ok_part at c.interwork.ensures)))
