-- How a feeder's data lies on a page.
use Rattle.std.specs.Prelude.{◌≡◌, slice_index}
use Rattle.page_store.specs.Pages.{Words}
use Rattle.reels.specs.declared.reel.Reel.{Reel}
use Rattle.host.specs.declared.feeder.Feeder.{Feeder}

abbrev pub feeder_on : Words → Feeder
feeder_on w = record {
  reel = record { slot = slice_index w 0; low = slice_index w 1; high = slice_index w 2 };
  parts = slice_index w 3;
}

abbrev pub lies_on : Feeder → Words → Type 0
lies_on f w = feeder_on w ≡ f
