use Rattle.reader_laws.proofs.callers.told.finish_told_fed.Goals as goal

pub returns : goal.returns
returns g c =
    let last = c.finish_fed.ensures.ended.1 in
    record { fed = (last.ended.log, last.ended.goes_on, last.ended.leads, last.all_fed) }
