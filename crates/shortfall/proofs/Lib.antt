-- How near the sum along codes is, the turns of a walk along them, and that codes which lead round and sum below zero are the chains.
pub mod Near
pub mod Turns
pub mod Rounds
