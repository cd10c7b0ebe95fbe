-- Laws of the order of the index, which only impls and other laws cite. Nothing here defines anything.
use Rattle.std.specs.Cmp.{IsTotalOrder}
use Rattle.std.proofs.lemmas.Cmp.{back_total, nat_cmp_total, on_total, then_total}
use Rattle.notify_paths.specs.PathLaws.{path_cmp_total}
use Rattle.debounce_queues.specs.Fronts.{front_cmp}

-- fronts are totally ordered
pub front_cmp_total : IsTotalOrder front_cmp
front_cmp_total =
    then_total (on_total (λ k. k.0) (back_total nat_cmp_total)) (on_total (λ k. k.1) path_cmp_total)
