-- The judgement of a history in a room that is wide enough, by what is said of it.
use Rattle.std.proofs.Common.{◌≡◌, ℕ, ℤ, List, Option, Some, sym, subst, inl, inr}
use Rattle.omci_msg.specs.declared.request.Request.{Request}
use Rattle.bench_judge.specs.declared.settings.JudgeSettings.{JudgeSettings}
use Rattle.onu_texts.specs.Judging.{By, DeviatesAt, IsNoPass, IsPass, JudgesInto, Says, may_be_unfinished, settings_in}
use Rattle.onu_texts.specs.Room.{IsWrittenUpTo}

-- what holds of the settings holds where they are given
given_by : (given : Option JudgeSettings) (settings : JudgeSettings) (Holds : JudgeSettings → Type 0) → given ≡ Some settings → Holds settings → By given Holds
given_by given settings Holds some is = subst (λ (o : Option JudgeSettings). By o Holds) (sym some) is

pub in_room : (start : List Request) (flags : ℕ) (settings : JudgeSettings) (history room after : List ℕ) (number : ℤ) (before written line_before line : ℕ)
    → settings_in flags ≡ Some settings → Says (may_be_unfinished flags) settings start history number line → IsWrittenUpTo written room after
    → JudgesInto start flags history room after number before written line_before line
in_room start flags settings history room after number before written line_before line given (inl says) within = record {
  passes = λ is. given_by (settings_in flags) settings (IsPass (may_be_unfinished flags) start history) given says.2;
  explained = λ is. absurd (cc (says.0, is));
  deviates = λ is. absurd (cc (says.0, is));
  bad = λ is. absurd (cc (says.0, is));
  no_settings = λ none. absurd (cc (given, none));
  yes = λ is. within;
  so_far = λ is. within;
  no = λ is. within;
  number = inl says.0;
  names = record { yes = λ is. says.1; so_far = λ is. says.1; found = λ is. absurd (cc (says.0, is)); none = λ is. says.1; flags = λ is. absurd (cc (says.0, is)) };
  says = (λ is. absurd (cc (says.0, is)), λ is. absurd (cc (says.0, is)), λ is. absurd (cc (says.0, is)), λ is. absurd (cc (says.0, is)));
  kept = λ refused. absurd (cc (says.0, refused.1));
}
in_room start flags settings history room after number before written line_before line given (inr (inl says)) within = record {
  passes = λ is. absurd (cc (says.0, is));
  explained = λ is. given_by (settings_in flags) settings (IsNoPass (may_be_unfinished flags) start history) given says.2;
  deviates = λ is. absurd (cc (says.0, is));
  bad = λ is. absurd (cc (says.0, is));
  no_settings = λ none. absurd (cc (given, none));
  yes = λ is. within;
  so_far = λ is. within;
  no = λ is. within;
  number = inr (inl says.0);
  names = record { yes = λ is. says.1; so_far = λ is. says.1; found = λ is. absurd (cc (says.0, is)); none = λ is. says.1; flags = λ is. absurd (cc (says.0, is)) };
  says = (λ is. absurd (cc (says.0, is)), λ is. absurd (cc (says.0, is)), λ is. absurd (cc (says.0, is)), λ is. absurd (cc (says.0, is)));
  kept = λ refused. absurd (cc (says.0, refused.1));
}
in_room start flags settings history room after number before written line_before line given (inr (inr says)) within = record {
  passes = λ is. absurd (cc (says.0, is));
  explained = λ is. absurd (cc (says.0, is));
  deviates = λ is. given_by (settings_in flags) settings (DeviatesAt start history line) given says.1;
  bad = λ is. absurd (cc (says.0, is));
  no_settings = λ none. absurd (cc (given, none));
  yes = λ is. within;
  so_far = λ is. within;
  no = λ is. within;
  number = inr (inr (inl says.0));
  names = record { yes = λ is. absurd (cc (says.0, is)); so_far = λ is. absurd (cc (says.0, is)); found = λ is. absurd (cc (says.0, is)); none = λ is. absurd (cc (says.0, is)); flags = λ is. absurd (cc (says.0, is)) };
  says = (λ is. absurd (cc (says.0, is)), λ is. absurd (cc (says.0, is)), λ is. absurd (cc (says.0, is)), λ is. absurd (cc (says.0, is)));
  kept = λ refused. absurd (cc (says.0, refused.1));
}
