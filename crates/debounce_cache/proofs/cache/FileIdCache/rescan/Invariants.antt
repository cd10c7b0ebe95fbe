use Rattle.std.proofs.Common.{drop}
use Rattle.debounce_model.specs.Cache.{AreMade, IsStopped, adds_of}
use Rattle.debounce_cache.proofs.cache.FileIdCache.rescan.Given as goal

-- what happens from here on happens from the start
abbrev pub invariant-loop-root : goal.invariant-loop-root
invariant-loop-root g l = record {
  made : (d : _) → AreMade g.Self.FileIdCache.rules l.self (adds_of (drop l.root-index l.roots)) d →
      AreMade g.Self.FileIdCache.rules l.initial.self (adds_of l.roots) d;
  stopped : (d : _) → IsStopped g.Self.FileIdCache.rules l.self (adds_of (drop l.root-index l.roots)) d →
      IsStopped g.Self.FileIdCache.rules l.initial.self (adds_of l.roots) d;
}
