-- Laws on lists, by place.
use Rattle.std.proofs.Common.{◌≡◌, ◌<◌, [], ◌∷◌}
