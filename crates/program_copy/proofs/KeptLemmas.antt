-- Facts of a call that went well. `kept` and `moving` cite these.
use Rattle.std.specs.Prelude.{Result, Ok, Err, IfOk, OnOk}

-- what holds if the call went well, and what holds anyway
pub and_so : {T E : Type 0} (P Q : Type 0) (result : Result T E) → OnOk result P → Q → IfOk result (λ x. P × Q)
and_so P Q (Ok x) p q = (p, q)
and_so P Q (Err e) p q = tt

-- two facts of a call that went well
pub on_both : {T E : Type 0} (P Q : Type 0) (result : Result T E) → OnOk result P → OnOk result Q → OnOk result (P × Q)
on_both P Q (Ok x) p q = (p, q)
on_both P Q (Err e) p q = p

-- what holds anyway
pub on_any : {T E : Type 0} (P : Type 0) (result : Result T E) → P → OnOk result P
on_any P (Ok x) p = p
on_any P (Err e) p = tt
