use Rattle.reader_laws.proofs.ListingLemmas.{reader_has_the_last}
use Rattle.reader_laws.proofs.listings.law_of_listings.Goals as goal

pub returns : goal.returns
returns g c = λ s t commands replies first others outlook. reader_has_the_last g.C.FileIdCache.rules s t
    commands
    replies first others outlook
