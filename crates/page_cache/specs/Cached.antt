-- What a cache means, and its table; the meaning of the store below is given.
use Rattle.std.specs.Prelude.{ℕ, Option}
use Rattle.std.specs.Option.{option_map}
use Rattle.page_store.specs.Pages.{Pages}
use Rattle.page_store.specs.declared.store.PageStore.{Ghosts}
use Rattle.page_cache.specs.declared.slot.SlotNumber.{SlotNumber}
use Rattle.page_cache.specs.declared.table.Table.{Table}
use Rattle.page_cache.specs.declared.cache.Cache.{Cache}
use Rattle.page_cache.specs.Slots.{kept_in}
use Rattle.page_cache.specs.Policy.{Places}
use Rattle.page_cache.specs.Over.{over}

abbrev pub cached : {S : Type 0} {g : Ghosts S} → Cache S g → Pages
cached {S} {g} c = over (g.meaning c.below) (kept_in c.table.slots)

abbrev pub places : Table → Places
places t = record { slots = t.slots; turn = t.turn.index }

abbrev pub places_in : {S : Type 0} {g : Ghosts S} → Cache S g → Places
places_in c = places c.table

abbrev pub index_of : Option SlotNumber → Option ℕ
index_of i = option_map (λ n. n.index) i
