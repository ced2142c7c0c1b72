mod Place
