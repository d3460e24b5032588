use Rattle.std.proofs.Common.{refl}
use Rattle.outside.specs.Counts.{fault_count}
use Rattle.outside.proofs.Loading.{not_shown, rose_after}
use Rattle.outside.proofs.file_shelf.FileShelfShelf.TheImpl.Goals as goal

pub load-tells : goal.load-tells
load-tells g c = record {
  within_limit = c.ensures.within_limit;
  ok = not_shown c.result;
  too_long = λ e. tt;
  held = λ other. refl;
  failed = rose_after c.result (fault_count c.args.self.now.faults c.args.name.now)
      (fault_count c.new.self.now.faults c.args.name.now) c.ensures.faults;
  never_falls = c.ensures.never_falls;
  others = c.ensures.others;
}
