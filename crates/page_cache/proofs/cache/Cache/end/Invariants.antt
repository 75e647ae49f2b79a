use Rattle.std.proofs.Common.{◌≡◌, ℕ, ◌<◌, false}
use Rattle.page_cache.specs.Slots.{is_changed, slot_at}
use Rattle.page_cache.specs.Cached.{cached}
use Rattle.page_cache.proofs.cache.Cache.end.Given as goal

-- The slots up to this one are written.
abbrev pub invariant-loop-number : goal.invariant-loop-number
invariant-loop-number g l = record {
  same : cached l.self ≡ cached l.initial.self;
  written : (i : ℕ) → i < l.number-index → is_changed (slot_at l.self.table.slots i) ≡ false;
}
