-- One name that opens every rule: a proof that computes whole calls says `unfolding machine`.
use Rattle.rules.specs.Calls.{started, stepped, collected, counted}
use Rattle.rules.specs.Explore.{follow, expand, conclude, explore}
use Rattle.rules.specs.Find.{find}
use Rattle.rules.specs.Locate.{locate, next_job}
use Rattle.rules.specs.Lock.{lock_first, lock_second}
use Rattle.rules.specs.Release.{unlink_step, unlock_step}
use Rattle.rules.specs.Validate.{remove_wait, empty_one, sweep_one, add_job, remove_job, add_wait, validate}

unfoldable pub machine : Unit {0}
unfolding started stepped collected counted follow expand conclude explore find locate next_job lock_first lock_second unlink_step unlock_step remove_wait empty_one sweep_one add_job remove_job add_wait validate
machine = tt
