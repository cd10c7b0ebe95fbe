use Rattle.std.proofs.Common.{refl}
use Rattle.reader_laws.proofs.CallersLemmas.ToldCalls.{not_uncalled}
use Rattle.reader_laws.proofs.callers.told.finish_told.Goals as goal

pub returns : goal.returns
returns g c =
    let ended = c.finish_left-book.ensures.ended.ended in
    record {
      called = λ uncalled called. (
        ended.log,
        ended.goes_on,
        ended.leads,
        λ none. not_uncalled _ _ uncalled called (ended.told none),
        ended.aged,
        ended.unnumbered (λ cache path. refl),
      );
    }
