use Rattle.law.proofs.Bites.{bites}
use Rattle.law.proofs.Boards.{history_from_moves}
use Rattle.law.proofs.Schedules.{schedule_explained}
use Rattle.law.proofs.history_assembles.Goals as goal

pub returns : goal.returns
returns g c =
    let order = g.K.Key.order in
    record { value = c.compare.ensures; history = history_from_moves order; bites = bites order; schedule = schedule_explained }
