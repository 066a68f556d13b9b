mod Closing
mod Drawn
mod Needed
mod Rising
mod Seeing
mod Words
