-- The pairs at the paths of the queues tell what is put from what was there, and they are settled.
use Rattle.debounce_model.specs.Moved.{with_queues}
use Rattle.debounce_queues.specs.Steps.{TellApart}
use Rattle.debounce_queues.proofs.FrontPuts.{filled-with_queues, index_follows, puts_told}
use Rattle.debounce_queues.proofs.index.IndexedMap.put_all.Goals as goal

pub returns-clause-indexed : goal.returns-clause-indexed
returns-clause-indexed g c =
    let was = c.args.self.now in
    let m = was.map.entries in
    let es = c.args.queues.items in
    let put = c.insert_and_put-put in
    let told : TellApart c.in_ok-pairs.pairs.items m (with_queues m es) =
    rw (c.in_ok-pairs.ensures, c.as_slice.ensures.value) (puts_told m es) in
    rw c.settle.ensures.map
    (index_follows put.result was.fronts put.new.self.fronts c.settle.new.self.fronts c.in_ok-pairs.pairs.items m
    put.new.self.map.entries (with_queues m es) c.requires.indexed
    (filled-with_queues m es c.requires.indexed.filled c.requires.filled)
    put.ensures.ok put.ensures.unchanged (rw c.as_slice-2.ensures.value at put.ensures.put)
    put.ensures.kept (rw c.as_slice-2.ensures.value at put.ensures.others) told
    (rw c.as_slice-3.ensures.value at c.settle.ensures.fronts))
