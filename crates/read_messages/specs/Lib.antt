pub mod FirstPass
