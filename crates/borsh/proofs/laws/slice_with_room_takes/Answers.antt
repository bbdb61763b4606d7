use Rattle.borsh.proofs.Room.{fits_into_room}
use Rattle.borsh.proofs.laws.slice_with_room_takes.Goals as goal

pub returns : goal.returns
returns g c = fits_into_room g.T.BorshType.codec (λ s. s.now)
