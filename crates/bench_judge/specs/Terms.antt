-- What a history is judged upon.
use Rattle.std.specs.Prelude.{List}
use Rattle.omci_msg.specs.declared.request.Request.{Request}
use Rattle.bench_answers.specs.Ground.{Ground}
use Rattle.bench_judge.specs.declared.settings.JudgeSettings.{JudgeSettings}
use Rattle.bench_judge.specs.declared.terms.Terms as given

-- the settings, and the requests that the unit carried out before the first line
pub record Terms : Type 0 where
  pub settings : JudgeSettings
  pub start : List Request

-- the same of messages and replies alone
abbrev pub ground_in : Terms → Ground
ground_in terms = record { modelled = terms.settings.modelled; repeats = terms.settings.repeats; start = terms.start }

-- what the code is given
abbrev pub terms_of : given.Terms → Terms
terms_of terms = record { settings = terms.settings; start = terms.start.now }
