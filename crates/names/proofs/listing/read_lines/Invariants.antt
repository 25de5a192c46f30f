use Rattle.std.proofs.Common.{◌≡◌, ◌+◌, vec_items}
use Rattle.std.specs.List.{flat_map}
use Rattle.names.specs.Listings.{entry, name_of, fault_of}
use Rattle.names.proofs.listing.read_lines.Given as goal

-- what the lines passed give is in the listing
abbrev pub invariant-loop-i : goal.invariant-loop-i
invariant-loop-i g l = let named = g.K.Name.named in
    record {
      names : vec_items l.listing.names ≡ flat_map (λ line. name_of (entry named line.1.now.now)) l.yielded;
      faults : vec_items l.listing.faults ≡ flat_map (λ line. fault_of (line.0 + 1) (entry named line.1.now.now)) l.yielded;
    }
