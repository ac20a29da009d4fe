use Rattle.std.proofs.Common.{◌∙◌, codes, sym}
use Rattle.clap.specs.Words.{found_of}
use Rattle.clap.proofs.WalkLemmas.{first_value-rows, one_text-rows}
use Rattle.command_words.proofs.Given.{batch_unread, frames_missing, if_none, lanes_unread, limits_apart, number_read, port_unread, trace_missing, until_unread}
use Rattle.command_words.proofs.reading.read_run.Goals as goal

pub returns-clause-asked : goal.returns-clause-asked
returns-clause-asked c =
    let found = found_of c.args.given.now in
    rw c.in_ok-new.ensures.value (record {
      trace = sym (first_value-rows found (codes "trace")) ∙ sym c.in_ok-get_str.ensures;
      until = c.in_ok-read_optional.ensures.asked;
      frames = sym (first_value-rows found (codes "frames")) ∙ sym c.in_ok-get_str-2.ensures;
      port = number_read 16 found (codes "port") _ c.in_ok-port.ensures.none c.in_ok-port.ensures.value;
      lanes = record { given = c.in_ok-some_lanes.some_lanes; value = c.in_ok-some_lanes.ensures.asked; number = c.unwrap_or-lanes.ensures };
      batch = record { given = c.in_ok-some_batch.some_batch; value = c.in_ok-some_batch.ensures.asked; number = c.unwrap_or-batch.ensures };
      after = record {
        with = λ e. c.get_flag-after.ensures.value (one_text-rows found (codes "after") ∙ e);
        without = λ e. c.get_flag-after.ensures.other (one_text-rows found (codes "after") ∙ e);
      };
      json = record {
        with = λ e. c.get_flag.ensures.value (one_text-rows found (codes "json") ∙ e);
        without = λ e. c.get_flag.ensures.other (one_text-rows found (codes "json") ∙ e);
      };
    })

pub returns-in_err-port-clause-none : goal.returns-in_err-port-clause-none
returns-in_err-port-clause-none c = if_none c.from_residual.result (port_unread (found_of c.args.given.now) c.in_err-port.ensures.value)

pub returns-in_err-some_lanes-clause-none : goal.returns-in_err-some_lanes-clause-none
returns-in_err-some_lanes-clause-none c = if_none c.from_residual-in_err-some_lanes.result (lanes_unread (found_of c.args.given.now) c.in_err-some_lanes.ensures.none)

pub returns-in_err-some_batch-clause-none : goal.returns-in_err-some_batch-clause-none
returns-in_err-some_batch-clause-none c = if_none c.from_residual-in_err-some_batch.result (batch_unread (found_of c.args.given.now) c.in_err-some_batch.ensures.none)

pub returns-in_err-read_optional-clause-none : goal.returns-in_err-read_optional-clause-none
returns-in_err-read_optional-clause-none c = if_none c.from_residual-in_err-read_optional.result (until_unread (found_of c.args.given.now) c.in_err-read_optional.ensures.none)

pub returns-in_err-get_str-clause-none : goal.returns-in_err-get_str-clause-none
returns-in_err-get_str-clause-none c = if_none c.from_residual-in_err-get_str.result (trace_missing (found_of c.args.given.now) (sym c.in_err-get_str.ensures))

pub returns-in_err-get_str-2-clause-none : goal.returns-in_err-get_str-2-clause-none
returns-in_err-get_str-2-clause-none c = if_none c.from_residual-in_err-get_str-2.result (frames_missing (found_of c.args.given.now) (sym c.in_err-get_str-2.ensures))

pub returns-in_err-new-clause-none : goal.returns-in_err-new-clause-none
returns-in_err-new-clause-none c =
    let found = found_of c.args.given.now in
    if_none c.from_residual-in_err-new.result (limits_apart found c.unwrap_or-lanes.result c.unwrap_or-batch.result
    (record { given = c.in_ok-some_lanes.some_lanes; value = c.in_ok-some_lanes.ensures.asked; number = c.unwrap_or-lanes.ensures })
    (record { given = c.in_ok-some_batch.some_batch; value = c.in_ok-some_batch.ensures.asked; number = c.unwrap_or-batch.ensures }) c.in_err-new.ensures.none)
