use Rattle.reader_laws.proofs.FeederLemmas.{reader_has_the_last_listing}
use Rattle.reader_laws.proofs.feeder.law_of_one_feeder.Goals as goal

pub returns : goal.returns
returns c = reader_has_the_last_listing
