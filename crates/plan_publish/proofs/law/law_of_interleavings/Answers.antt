-- Each part is a lemma.
use Rattle.plan_publish.proofs.Last.{prefixes_grow}
use Rattle.plan_publish.proofs.Interleavings.{replies_follow, tokens_count, verdicts_are_of_a_prefix, prefixes_reach_tokens, seen_is_greatest}
use Rattle.plan_publish.proofs.law.law_of_interleavings.Goals as goal

pub returns : goal.returns
returns c = record {
  replies = replies_follow;
  tokens = tokens_count;
  verdicts = verdicts_are_of_a_prefix;
  prefixes = prefixes_grow;
  told = prefixes_reach_tokens;
  seen = seen_is_greatest;
}
