use Rattle.std.proofs.Common.{drop}
use Rattle.plan_publish.specs.Edition.{requests_of}
use Rattle.plan_publish.proofs.publisher.publish_now.Given as goal

abbrev pub ghosts-publish_pending : goal.ghosts-publish_pending
ghosts-publish_pending g a = record { pending = requests_of (drop a.writer.behind a.writer.log.items) }
