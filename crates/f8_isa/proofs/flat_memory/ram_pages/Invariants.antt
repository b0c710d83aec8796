use Rattle.std.proofs.Common.{◌≡◌, ℕ, ◌<◌, ◌/◌, length}
use Rattle.f8_isa.specs.IsaState.{is_ram_page}
use Rattle.console_spec.specs.FlatMemory.{is_ram_sort}
use Rattle.memory_map.specs.MapOf.{mapped_sort}
use Rattle.f8_isa.proofs.flat_memory.ram_pages.Given as goal

abbrev pub invariant-loop-page : goal.invariant-loop-page
invariant-loop-page l = record {
  size : length l.ram_pages ≡ 256;
  page : (at : ℕ) → at / 256 < l.page → is_ram_page l.ram_pages at ≡ is_ram_sort (mapped_sort l.map at);
}
