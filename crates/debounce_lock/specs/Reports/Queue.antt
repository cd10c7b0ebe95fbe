-- A queue, and the history of what was to be put into it.
use Rattle.std.specs.Prelude.{◌≡◌, ◌+◌, ◌-◌, ◌^◌, ℕ, min, Bool, if◌then◌else◌, List, [], ◌∷◌, ◌++◌}
use Rattle.atomic_table.specs.Seated.{TableId}

-- what was to be put in, in order, and whether it was
abbrev pub Calls : Type 0 → Type 0
Calls T = List (T × Bool)

module _ {T : Type 0} where
  -- what was put in, in order
  abbrev pub put_in : Calls T → List T
  put_in [] = []
  put_in (c ∷ cs) = if c.1 then c.0 ∷ put_in cs else put_in cs

  -- how much was not
  abbrev pub lost_in : Calls T → ℕ
  lost_in [] = 0
  lost_in (c ∷ cs) = if c.1 then lost_in cs else lost_in cs + 1

  -- the calls lead to this queue, out of which these came, and to this count
  pub record Queues (queue : List T) (unsent : ℕ) (out log : Calls T) : Type 0 where
    pub queue_is : put_in out ++ queue ≡ put_in log
    pub unsent_is : unsent ≡ min (lost_in log) (2 ^ 64 - 1)

-- what the sender shows: of which lock it is, and its calls so far
pub record Sending (T : Type 0) : Type 0 where
  pub lock : TableId
  pub calls : Calls T

-- what the queue shows: of which lock it is, what came out so far, and whether more may come as far as it knows
pub record Giving (T : Type 0) : Type 0 where
  pub lock : TableId
  pub given : List T
  pub is_open : Bool
